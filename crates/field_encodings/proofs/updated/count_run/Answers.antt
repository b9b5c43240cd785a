use Rattle.std.proofs.Common.{◌≡◌, ◌+◌, ◌∙◌, ℕ, List, length, get_or, sym, arith}
use Rattle.field_encodings.proofs.Runs.{row_last}
use Rattle.field_encodings.proofs.RunCounts.{row_counts, row_few, greatest_of_none, greatest_of_last}
use Rattle.field_encodings.proofs.updated.count_run.Goals as goal

pub returns-in-Some : goal.returns-in-Some
returns-in-Some c =
    let locals : List ℕ = c.args.locals.now in
    let first : ℕ = get_or locals 0 0 in
    let end : c.end_of-end.result ≡ first + length locals = omega (arith, row_last locals first c.requires.row c.requires.some, c.end_of-end.ensures.last, c.requires.some) in
    record {
      count = c.count_between-count.ensures ∙ row_counts c.args.bits.now locals first c.end_of-end.result c.requires.row end c.end_of-end.ensures.within;
      greatest = c.saturating_sub.ensures ∙ sym (greatest_of_last c.args.bits.now locals first c.end_of-end.result c.requires.row end c.end_of-end.ensures.within c.in-Some.last c.in-Some.ensures);
      few = omega (arith, row_few c.args.bits.now locals first c.end_of-end.result c.requires.row end c.end_of-end.ensures.within, c.count_between-count.ensures);
      within = λ _. omega (arith, end, c.saturating_sub.ensures, c.in-Some.ensures.before, c.requires.some);
    }

pub returns-in-None : goal.returns-in-None
returns-in-None c =
    let locals : List ℕ = c.args.locals.now in
    let first : ℕ = get_or locals 0 0 in
    let end : c.end_of-end.result ≡ first + length locals = omega (arith, row_last locals first c.requires.row c.requires.some, c.end_of-end.ensures.last, c.requires.some) in
    record {
      count = c.count_between-count.ensures ∙ row_counts c.args.bits.now locals first c.end_of-end.result c.requires.row end c.end_of-end.ensures.within;
      greatest = sym (greatest_of_none c.args.bits.now locals first c.end_of-end.result c.requires.row end c.end_of-end.ensures.within c.in-None.ensures);
      few = omega (arith, row_few c.args.bits.now locals first c.end_of-end.result c.requires.row end c.end_of-end.ensures.within, c.count_between-count.ensures);
      within = λ _. c.requires.some;
    }
