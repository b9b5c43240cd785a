-- Picks that are asked for one after another.
use Rattle.std.proofs.Common.{◌≡◌, ℕ, suc, ◌+◌, Option, Some, None, refl, ap, ◌∙◌, arith}
use Rattle.std.specs.Prelude.{option_map}
use Rattle.io_edge.specs.Faults.{count_up}
use Rattle.memo_exchange.specs.Asks.{asked_after}

-- one pick, and then the others
pub asked_once : (picks more : ℕ) (old new : Option ℕ) → new ≡ option_map count_up old → more + 1 ≡ picks → option_map (asked_after more) new ≡ option_map (asked_after picks) old
asked_once picks more None new is count = ap (option_map (asked_after more)) is
asked_once picks more (Some asked) new is count =
    let next : suc more ≡ picks = omega arith in
    ap (option_map (asked_after more)) is ∙ ap (λ n. Some (asked_after n asked)) next

-- no pick
pub asked_never : (asked : Option ℕ) → option_map (asked_after 0) asked ≡ asked
asked_never None = refl
asked_never (Some asked) = refl
