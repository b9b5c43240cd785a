use Rattle.std.proofs.Common.{◌≡◌, ◌&&◌, ◌==◌, sym, ap, subst, ◌∙◌}
use Rattle.host_state.specs.HostState.{HostState}
use Rattle.host_state.specs.OwnEffects.{is_ready_to_close}
use Rattle.host_core.proofs.Ready.{closes, tried, not_tried}
use Rattle.host_core.proofs.host.Host.may_close.Goals as goal
use Rattle.host_core.proofs.host.Host.may_close.Goals.{then-self, else-self, then-self-2, else-self-2}

pub returns-then-self-eq0 : goal.returns-then-self-eq0
returns-then-self-eq0 g c =
    let first : c.if-self.value ≡ (c.self.inside.has_computed && c.self.inside.has_spread) = elim c.if-self.branch [
      | then-self w ↦ tried _ _ _ w.if-self.true w.value-is
      | else-self w ↦ not_tried _ _ _ w.if-self.false w.value-is
    ] in
    let second : c.if-self-2.value ≡ (c.if-self.value && (c.self.inside.reduces_left == 0)) = elim c.if-self-2.branch [
      | then-self-2 w ↦ tried _ _ _ w.if-self-2.true w.value-is
      | else-self-2 w ↦ not_tried _ _ _ w.if-self-2.false w.value-is
    ] in
    subst (λ (host : HostState _ _ _ _). (c.self.inside.broadcasts_left == 0) ≡ is_ready_to_close host) c.self.view_is
    (ap (λ b. b && (c.self.inside.broadcasts_left == 0)) (sym c.if-self-eq0.true ∙ second ∙ ap (λ b. b && (c.self.inside.reduces_left == 0)) first)
    ∙ closes c.self.invariant)

pub returns-else-self-eq0 : goal.returns-else-self-eq0
returns-else-self-eq0 g c =
    let first : c.if-self.value ≡ (c.self.inside.has_computed && c.self.inside.has_spread) = elim c.if-self.branch [
      | then-self w ↦ tried _ _ _ w.if-self.true w.value-is
      | else-self w ↦ not_tried _ _ _ w.if-self.false w.value-is
    ] in
    let second : c.if-self-2.value ≡ (c.if-self.value && (c.self.inside.reduces_left == 0)) = elim c.if-self-2.branch [
      | then-self-2 w ↦ tried _ _ _ w.if-self-2.true w.value-is
      | else-self-2 w ↦ not_tried _ _ _ w.if-self-2.false w.value-is
    ] in
    subst (λ (host : HostState _ _ _ _). c.if-self-2.value ≡ is_ready_to_close host) c.self.view_is
    (c.if-self-eq0.false ∙ ap (λ b. b && (c.self.inside.broadcasts_left == 0)) (sym c.if-self-eq0.false ∙ second ∙ ap (λ b. b && (c.self.inside.reduces_left == 0)) first)
    ∙ closes c.self.invariant)
