use Rattle.std.proofs.Common.{sym, subst}
use Rattle.round_driver.specs.ClusterState.{StandsNow}
use Rattle.round_driver.proofs.tests.expect_round.Goals as goal

pub returns-clause-stands : goal.returns-clause-stands
returns-clause-stands g c =
    subst (λ program. StandsNow g.P.Red.Reduction.reducer (g.P.VertexProgram.steps program) g.P.Red.Item.Word.WIDTH g.P.Shown.Word.WIDTH g.P.Red.Item.Word.bytes_of g.P.Shown.Word.bytes_of c.run_round.new.cluster)
    (sym c.run_round.ensures.stays.same_program) c.run_round.ensures.stands
