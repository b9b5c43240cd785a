-- What calls that write to a sink, one after the other, come to together.
use Rattle.std.proofs.Common.{◌≡◌, ℕ, List, [], ◌++◌, Result, refl, ◌∙◌}
use Rattle.std.specs.Prelude.{⊤}
use Rattle.std.specs.Result.{IsErr}
use Rattle.std.proofs.lemmas.Result.{on_ok_weaker, on_err_weaker, IfOk-from_err, MatchResult-from_err}
use Rattle.io_edge.specs.Faults.{Rose}
use Rattle.io_edge.specs.Behind.{Behind, Passes}
use Rattle.io_edge.specs.Writing.{SinkState, WroteAll, WroteFront, WroteBy}
use Rattle.io_edge.proofs.Moves.{Gains-++, Gains-[], GainsPrefix-none, GainsPrefix-++, GainsPrefix-more, Rose-after}

-- what has arrived stays in two calls
pub Passes-after : {a b c : Behind} → Passes a b → Passes b c → Passes a c
Passes-after {a} {b} {c} first second = record {
  same_place = second.same_place ∙ first.same_place;
  grown = (first.grown.0 ++ second.grown.0, Gains-++ a.arrived b.arrived c.arrived _ _ first.grown.1 second.grown.1);
}

-- what has arrived stays where nothing happens
pub Passes-same : {a b : Behind} → b ≡ a → Passes a b
Passes-same {a} {b} same = record {
  same_place = cc;
  grown = ([], Gains-[] a.arrived b.arrived cc);
}

-- two texts, one after the other
pub WroteAll-++ : {a b c : SinkState} {xs ys : List ℕ} → WroteAll a b xs → WroteAll b c ys → WroteAll a c (xs ++ ys)
WroteAll-++ {a} {b} {c} {xs} {ys} first second = record {
  whole = Gains-++ a.held b.held c.held xs ys first.whole second.whole;
  quiet = second.quiet ∙ first.quiet;
  passed = Passes-after first.passed second.passed;
}

-- a text, and then a front of the next
pub WroteFront-++ : {a b c : SinkState} {xs ys : List ℕ} → WroteAll a b xs → WroteFront b c ys → WroteFront a c (xs ++ ys)
WroteFront-++ {a} {b} {c} {xs} {ys} first second = record {
  prefix = GainsPrefix-++ a.held b.held c.held xs ys first.whole second.prefix;
  rose = Rose-after a.faults b.faults c.faults first.quiet second.rose;
  passed = Passes-after first.passed second.passed;
}

-- a front of a text is a front of the text and more
pub WroteFront-more : {a b : SinkState} {xs : List ℕ} (ys : List ℕ) → WroteFront a b xs → WroteFront a b (xs ++ ys)
WroteFront-more {a} {b} {xs} ys first = record {
  prefix = GainsPrefix-more a.held b.held xs ys first.prefix;
  rose = first.rose;
  passed = first.passed;
}

-- nothing is written where nothing happens
pub WroteAll-[] : (a : SinkState) → WroteAll a a []
WroteAll-[] a = record { whole = Gains-[] a.held a.held refl; quiet = refl; passed = Passes-same refl }

-- a fault that left what is held as it was
pub WroteFront-none : {a b : SinkState} (text : List ℕ) → b.held ≡ a.held → Rose a.faults b.faults → Passes a.behind b.behind → WroteFront a b text
WroteFront-none {a} {b} text same rose passed = record { prefix = GainsPrefix-none a.held b.held text same; rose = rose; passed = passed }

-- a text, and then what the next call wrote
pub WroteBy-++ : {T E : Type 0} {r : Result T E} {a b c : SinkState} {xs ys : List ℕ} → WroteAll a b xs → WroteBy r b c ys → WroteBy r a c (xs ++ ys)
WroteBy-++ {r} first second = record {
  all = on_ok_weaker r (λ all. WroteAll-++ first all) second.all;
  front = on_err_weaker r (λ front. WroteFront-++ first front) second.front;
}

-- what a call has written whose error is passed on
pub WroteBy-err : {T E : Type 0} {r : Result T E} {a b : SinkState} {text : List ℕ} → IsErr r → WroteFront a b text → WroteBy r a b text
WroteBy-err {r} {a} {b} {text} failed front = record {
  all = IfOk-from_err r (λ _. WroteAll a b text) failed;
  front = MatchResult-from_err r (λ _. ⊤) (λ _. WroteFront a b text) failed (λ _. front);
}
