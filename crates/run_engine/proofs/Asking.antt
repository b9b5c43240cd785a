-- Picks that are asked for round by round.
use Rattle.std.proofs.Common.{◌≡◌, ℕ, zero, suc, ◌+◌, ◌*◌, Option, Some, None, refl, sym, ap, ◌∙◌, arith}
use Rattle.std.specs.Prelude.{option_map}
use Rattle.io_edge.specs.Faults.{count_up}
use Rattle.graph_division.specs.Division.{Division}
use Rattle.memo_exchange.specs.Asks.{asked_after, exchange_asks}
use Rattle.memo_exchange.proofs.Asking.{asked_never}
use Rattle.run_text.specs.Asks.{round_asks, asks}

after_both : (first second asked : ℕ) → asked_after second (asked_after first asked) ≡ asked_after (first + second) asked
after_both zero second asked = ap (λ n. asked_after n asked) (let same : second ≡ 0 + second = omega arith in same)
after_both (suc first) second asked =
    after_both first second (count_up asked) ∙ ap (λ n. asked_after n asked) (let same : suc (first + second) ≡ suc first + second = omega arith in same)

-- some picks, and then others
pub asked_both : (first second : ℕ) (asked : Option ℕ) → option_map (asked_after second) (option_map (asked_after first) asked) ≡ option_map (asked_after (first + second)) asked
asked_both first second None = refl
asked_both first second (Some asked) = ap Some (after_both first second asked)

-- the picks of no round
pub asked_no_round : (rounds each : ℕ) (asked : Option ℕ) → rounds ≡ 0 → asked ≡ option_map (asked_after (rounds * each)) asked
asked_no_round rounds each asked none =
    sym (asked_never asked) ∙ ap (λ n. option_map (asked_after n) asked) (let product = ap (λ n. n * each) none in let same : 0 ≡ rounds * each = omega arith in same)

more_product : (n k : ℕ) → n * k + k ≡ (n + 1) * k
more_product n k = grind arith

-- those of one round more
pub asked_one_more : (rounds next each : ℕ) (first before after : Option ℕ) → next ≡ rounds + 1 → before ≡ option_map (asked_after (rounds * each)) first → after ≡ option_map (asked_after each) before
    → after ≡ option_map (asked_after (next * each)) first
asked_one_more rounds next each first before after is so_far here =
    here ∙ ap (option_map (asked_after each)) so_far ∙ asked_both (rounds * each) each first
    ∙ ap (λ n. option_map (asked_after n) first) (more_product rounds each ∙ ap (λ n. n * each) (sym is))

-- those of the exchange, and then those of all rounds
pub asked_all : (division told : Division) (rounds round : ℕ) (first between last : Option ℕ) → told ≡ division → round ≡ rounds → between ≡ option_map (asked_after (exchange_asks division)) first
    → last ≡ option_map (asked_after (round * round_asks told)) between → last ≡ option_map (asked_after (asks division rounds)) first
asked_all division told rounds round first between last same is exchanged ran =
    ran ∙ ap (λ (d : Division). option_map (asked_after (round * round_asks d)) between) same ∙ ap (λ n. option_map (asked_after (n * round_asks division)) between) is
    ∙ ap (option_map (asked_after (rounds * round_asks division))) exchanged ∙ asked_both (exchange_asks division) (rounds * round_asks division) first
