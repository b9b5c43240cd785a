use Rattle.std.proofs.Common.{◌≡◌, Result, Ok, Err, IfOk, sym, subst}
use Rattle.round_driver.specs.ClusterState.{StandsNow}
use Rattle.round_driver.proofs.tests.cluster.Goals as goal

-- what follows of a value from two facts of it
IfOk-both : {X Y : Type 0} (r : Result X Y) (P Q R : X → Type 0) → ((x : X) → P x → Q x → R x) → IfOk r P → IfOk r Q → IfOk r R
IfOk-both (Ok x) P Q R both p q = both x p q
IfOk-both (Err y) P Q R both p q = p

pub returns-clause-stands : goal.returns-clause-stands
returns-clause-stands g c =
    IfOk-both c.new.result (λ cluster. cluster.program ≡ c.args.program)
    (λ cluster. StandsNow g.P.Red.Reduction.reducer (g.P.VertexProgram.steps c.args.program) g.P.Red.Item.Word.WIDTH g.P.Shown.Word.WIDTH g.P.Red.Item.Word.bytes_of g.P.Shown.Word.bytes_of cluster)
    (λ cluster. StandsNow g.P.Red.Reduction.reducer (g.P.VertexProgram.steps cluster.program) g.P.Red.Item.Word.WIDTH g.P.Shown.Word.WIDTH g.P.Red.Item.Word.bytes_of g.P.Shown.Word.bytes_of cluster)
    (λ cluster same stands. subst (λ program. StandsNow g.P.Red.Reduction.reducer (g.P.VertexProgram.steps program) g.P.Red.Item.Word.WIDTH g.P.Shown.Word.WIDTH g.P.Red.Item.Word.bytes_of g.P.Shown.Word.bytes_of cluster) (sym same) stands)
    c.new.ensures.program c.new.ensures.stands
