use Rattle.std.proofs.Common.{ℕ, List, Option, map, string_bytes, ◌∙◌, sym, subst}
use Rattle.gluon_top.specs.Tasks.{task_of, reads_input, runs_program, BeginsAs}
use Rattle.gluon_top.specs.Meaning.{meaning_of}
use Rattle.gluon_top.proofs.Outcomes.{OfBytes-map, Came, free_of, headline, complete, known, words_only, words_refused, input_only, input_fault, spent_only, spent, free, taken_of_input, memory_held, write_rose, write_quiet, front, read_only, read_quiet, runs_as, last_comes, no_run, not_memory}
use Rattle.gluon_top.proofs.Asking.{no_program, asks_none}
use Rattle.gluon_top.proofs.top.gluon_main.Goals as goal

pub returns : goal.returns
returns g c =
    let words : List (List ℕ) = map string_bytes c.args.words.now in
    let needed = reads_input (task_of words) in
    let left : Option (List ℕ) = g.S.Source.left c.args.source.now in
    let left' : Option (List ℕ) = g.S.Source.left c.prepare-prepared.new.source in
    let fs : ℕ = g.S.Source.faults c.args.source.now in
    let fs' : ℕ = g.S.Source.faults c.prepare-prepared.new.source in
    let held : Option (List ℕ) = g.K.Sink.held c.args.sink.now in
    let held' : Option (List ℕ) = g.K.Sink.held c.finish.new.sink in
    let fk : ℕ = g.K.Sink.faults c.args.sink.now in
    let fk' : ℕ = g.K.Sink.faults c.finish.new.sink in
    let status = c.finish.result.status in
    let prepared = c.prepare-prepared.result in
    let was = c.prepare-prepared.ensures in
    let came : Came prepared held held' fs fs' fk fk' status = record { answered = was.answered; counts = was.counts; written = c.finish.ensures.written } in
    record {
      headline = λ memory source sink. OfBytes-map needed left _ _ was.means (λ bytes finds.
          headline (meaning_of words bytes) left' held held' fs fs' fk fk' status prepared finds came memory source sink);
      complete = OfBytes-map needed left _ _ was.means (λ bytes finds ok source sink.
          complete (meaning_of words bytes) left' held held' fs fs' fk fk' status prepared finds came ok source sink);
      free = λ none. free c.programs_end.ensures held held' fs fs' fk fk' status prepared (free_of prepared was.free none) came;
      hosts = OfBytes-map needed left _ _ was.means (λ bytes finds.
          runs_as words bytes left' held held' fs fs' fk fk' status prepared c.finish.result.last (g.P.Picker.asked c.args.picker.now) (g.P.Picker.asked c.prepare-prepared.new.picker) (g.P.Picker.asked c.finish.new.picker) finds came was.asked was.kind c.finish.ensures.unasked c.finish.ensures.hosts);
      unread = was.unread;
      known = known held held' fs fs' fk fk' status prepared came;
      words_only = words_only (task_of words) held held' fs fs' fk fk' status prepared was.words came;
      words = λ none. words_refused held held' fs fs' fk fk' status prepared (was.refused none) came;
      input_only = λ three. OfBytes-map needed left _ _ was.means (λ bytes finds.
          input_only (meaning_of words bytes) left' held held' fs fs' fk fk' status prepared finds came three);
      input = OfBytes-map needed left _ _ was.means (λ bytes finds faulty not4 not6 not7.
          input_fault (meaning_of words bytes) left' held held' fs fs' fk fk' status prepared finds came faulty not4 not6 not7);
      taken = taken_of_input words left left' held held' fs fs' fk fk' status prepared was.means came was.taken;
      spent_only = λ five. OfBytes-map needed left _ _ was.means (λ bytes finds.
          spent_only (meaning_of words bytes) left' held held' fs fs' fk fk' status prepared finds came five);
      spent = OfBytes-map needed left _ _ was.means (λ bytes finds spends not4 not6 not7.
          spent (meaning_of words bytes) left' held held' fs fs' fk fk' status prepared finds came spends not4 not6 not7);
      memory = memory_held held held' fs fs' fk fk' status prepared came;
      write_only = write_rose held held' fs fs' fk fk' status prepared came;
      write = write_quiet held held' fs fs' fk fk' status prepared came;
      front = front words left left' held held' fs fs' fk fk' status prepared was.means came;
      read_only = read_only held held' fs fs' fk fk' status prepared came;
      read = read_quiet held held' fs fs' fk fk' status prepared came;
      last = last_comes held held' fs fs' fk fk' status prepared c.finish.result.last (runs_program (task_of words)) was.kind came c.finish.ensures.last;
      begun = λ not4. subst (λ (begun : Option (Option ℕ)). BeginsAs (task_of words) (g.P.Picker.begun c.args.picker.now) begun) (sym c.finish.ensures.begun)
          (was.begun (not_memory held held' fs fs' fk fk' status prepared came not4));
      unbegun = λ no. c.finish.ensures.begun ∙ was.unbegun no;
      unasked = λ no. c.finish.ensures.unasked (no_run prepared (runs_program (task_of words)) was.kind (no_program (task_of words) no))
          ∙ asks_none (task_of words) prepared (g.P.Picker.asked c.args.picker.now) (g.P.Picker.asked c.prepare-prepared.new.picker) no was.asked;
    }
