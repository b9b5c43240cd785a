use Rattle.std.proofs.Common.{◌≡◌, [], ◌∷◌, drop, arith, append_assoc}
use Rattle.std.proofs.lemmas.List.{drop_all}
use Rattle.answer_writer.specs.Lines.{spaced_numbers}
use Rattle.answer_writer.proofs.words.put_words.Goals as goal

pub returns-clause-written : goal.returns-clause-written
returns-clause-written c =
    let none : drop 233 c.args.line.now ≡ [] = drop_all 233 c.args.line.now (omega arith) in
    let grouped = append_assoc c.args.first.now (spaced_numbers c.args.numbers.now) (10 ∷ []) in
    cc (c.put_bytes.ensures.written, c.put_spaced_numbers-spaces.ensures.written, c.put_byte-newline.ensures.written)
