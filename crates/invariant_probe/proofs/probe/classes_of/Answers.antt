use Rattle.std.proofs.Common.{◌≡◌, ℕ, Bool, not, ◌&&◌, ◌+◌, ◌≤◌, length, sym, ap, ◌∙◌, arith}
use Rattle.graph_division.specs.Shares.{Share}
use Rattle.graph_division.specs.Classes.{has_out, has_in, has_both}
use Rattle.proxy_graph.specs.Heads.{vertex_at}
use Rattle.invariant_probe.specs.Probe.{none_of}
use Rattle.invariant_probe.proofs.Places.{mirrors_below, none_more}
use Rattle.invariant_probe.proofs.probe.classes_of.Goals as goal

-- one test more of two that are told alike
both_alike : (a b p q : Bool) → a ≡ b → p ≡ q → (a && not p) ≡ (b && not q)
both_alike a b p q same other = ap (λ t. t && not p) same ∙ ap (λ t. b && not t) other

pub loop-lid-preserved : goal.loop-lid-preserved
loop-lid-preserved c =
    let share = c.args.graph.now in
    let lid = c.loop-lid.lid in
    let first = c.loop-lid.invariant in
    let out = c.has_out.ensures in
    let into = c.has_in.ensures in
    let more = λ (kind : Share → ℕ → Bool). none_more kind share lid first.from (omega arith) in
    record {
      from = omega arith;
      end = first.end;
      within = omega arith;
      no_out = c.with_mirror-all.ensures.no_out ∙ both_alike _ _ _ _ first.no_out out ∙ sym (more has_out);
      no_in = c.with_mirror-all.ensures.no_in ∙ both_alike _ _ _ _ first.no_in into ∙ sym (more has_in);
      no_both = c.with_mirror-all.ensures.no_both ∙ both_alike _ _ _ _ first.no_both (ap (λ t. t && c.has_in.result) out ∙ ap (λ t. has_out share (vertex_at share lid) && t) into) ∙ sym (more has_both);
    }
