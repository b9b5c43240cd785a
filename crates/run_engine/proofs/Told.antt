-- What rounds write, one after another, and how they end.
use Rattle.std.proofs.Common.{◌≡◌, ℕ, ◌+◌, Bool, false, List, ◌++◌, Option, Result, Ok, Err, refl, sym, ap, subst, ◌∙◌}
use Rattle.std.specs.Prelude.{OnOk}
use Rattle.std.specs.Result.{IsErr}
use Rattle.std.proofs.lemmas.Bool.{both_ways}
use Rattle.io_edge.specs.Writing.{SinkState, WroteAll, WroteFront}
use Rattle.io_edge.proofs.Writings.{WroteAll-++, WroteFront-++}
use Rattle.graph_division.specs.Division.{Division}
use Rattle.round_packets.specs.Runs.{Run}
use Rattle.round_driver.specs.ClusterState.{ClusterState}
use Rattle.run_text.specs.Told.{Told}
use Rattle.run_text.specs.Text.{if_asked, round_lines, trace_lines}
use Rattle.run_engine.specs.declared.finished.Finished.{Finished}
use Rattle.run_engine.specs.Rounds.{Plan, BreaksRounds, EndsRounds}
use Rattle.run_engine.proofs.Lines.{told_one_more}

-- what holds anyway holds where a call succeeds
pub ok_anyway : {T E : Type 0} (result : Result T E) {P : Type 0} → P → OnOk result P
ok_anyway (Ok value) holds = holds
ok_anyway (Err fault) holds = tt

-- the packets of one more round are written
pub wrote_one_more : {a b c : SinkState} (trace : Bool) (division : Division) (told : Told) (rounds before next : ℕ) → before ≡ rounds → next ≡ rounds + 1
    → WroteAll a b (if_asked trace (trace_lines division told rounds)) → WroteAll b c (if_asked trace (round_lines division told before)) → WroteAll a c (if_asked trace (trace_lines division told next))
wrote_one_more {a} {b} {c} trace division told rounds before next same is first here =
    subst (λ text. WroteAll a c text)
    (ap (λ n. if_asked trace (trace_lines division told rounds) ++ if_asked trace (round_lines division told n)) same ∙ sym (told_one_more trace division told rounds) ∙ ap (λ n. if_asked trace (trace_lines division told n)) (sym is))
    (WroteAll-++ first here)

-- or a front of them
pub front_one_more : {a b c : SinkState} (trace : Bool) (division : Division) (told : Told) (rounds before : ℕ) → before ≡ rounds
    → WroteAll a b (if_asked trace (trace_lines division told rounds)) → WroteFront b c (if_asked trace (round_lines division told before)) → WroteFront a c (if_asked trace (trace_lines division told (rounds + 1)))
front_one_more {a} {b} {c} trace division told rounds before same first here =
    subst (λ text. WroteFront a c text)
    (ap (λ n. if_asked trace (trace_lines division told rounds) ++ if_asked trace (round_lines division told n)) same ∙ sym (told_one_more trace division told rounds))
    (WroteFront-++ first here)

-- a write that failed ends the rounds
pub ends_broken : {Program Item State Shown Fault : Type 0} (item_bytes : Item → List ℕ) (shown_bytes : Shown → List ℕ) (run : Run Item State Shown) (trace : Bool) (plan : Plan Program) (budget : ℕ) (result : Result (Option Finished) Fault) (cluster : ClusterState Program Item State Shown) (old new : SinkState)
    → IsErr result → BreaksRounds item_bytes shown_bytes run trace budget old new → EndsRounds item_bytes shown_bytes run trace plan budget result cluster old new
ends_broken item_bytes shown_bytes run trace plan budget (Ok ended) cluster old new failed broken = absurd (both_ways false refl failed)
ends_broken item_bytes shown_bytes run trace plan budget (Err fault) cluster old new failed broken = broken
