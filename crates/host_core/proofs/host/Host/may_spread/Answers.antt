use Rattle.std.proofs.Common.{◌≡◌, not, ◌&&◌, ◌==◌, sym, ap, subst, ◌∙◌}
use Rattle.host_state.specs.HostState.{HostState, IsHost}
use Rattle.host_state.specs.OwnEffects.{is_ready_to_spread}
use Rattle.serving_laws.proofs.Knowing.{knows}
use Rattle.host_core.proofs.Ready.{spreads, tried, not_tried}
use Rattle.host_core.proofs.host.Host.may_spread.Goals as goal
use Rattle.host_core.proofs.host.Host.may_spread.Goals.{then-self, else-self}

pub returns-then-not-self-clause-own : goal.returns-then-not-self-clause-own
returns-then-not-self-clause-own g c =
    let first : c.if-self.value ≡ (c.self.inside.has_computed && not c.self.inside.has_spread) = elim c.if-self.branch [
      | then-self w ↦ tried _ _ _ w.if-self.true w.value-is
      | else-self w ↦ not_tried _ _ _ w.if-self.false w.value-is
    ] in
    subst (λ (host : HostState _ _ _ _). (c.self.inside.reduces_left == 0) ≡ is_ready_to_spread host) c.self.view_is
    (ap (λ b. b && (c.self.inside.reduces_left == 0)) (sym c.if-not-self.true ∙ first)
    ∙ spreads c.self.invariant)

pub returns-then-not-self-clause-serves : goal.returns-then-not-self-clause-serves
returns-then-not-self-clause-serves g c = λ division serves.
    returns-then-not-self-clause-own g c
    ∙ (knows division c.args.self.now (subst (λ (host : HostState _ _ _ _). IsHost host) c.self.view_is c.self.invariant.is_host) serves).ready_to_spread

pub returns-else-not-self-clause-own : goal.returns-else-not-self-clause-own
returns-else-not-self-clause-own g c =
    let first : c.if-self.value ≡ (c.self.inside.has_computed && not c.self.inside.has_spread) = elim c.if-self.branch [
      | then-self w ↦ tried _ _ _ w.if-self.true w.value-is
      | else-self w ↦ not_tried _ _ _ w.if-self.false w.value-is
    ] in
    subst (λ (host : HostState _ _ _ _). c.if-self.value ≡ is_ready_to_spread host) c.self.view_is
    (c.if-not-self.false ∙ ap (λ b. b && (c.self.inside.reduces_left == 0)) (sym c.if-not-self.false ∙ first)
    ∙ spreads c.self.invariant)

pub returns-else-not-self-clause-serves : goal.returns-else-not-self-clause-serves
returns-else-not-self-clause-serves g c = λ division serves.
    returns-else-not-self-clause-own g c
    ∙ (knows division c.args.self.now (subst (λ (host : HostState _ _ _ _). IsHost host) c.self.view_is c.self.invariant.is_host) serves).ready_to_spread
