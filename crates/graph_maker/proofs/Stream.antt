-- States after words, and words from a later state.
use Rattle.std.proofs.Common.{◌≡◌, ℕ, zero, suc, ◌+◌, ◌*◌, ◌%◌, ◌^◌, ◌<◌, [], ◌∷◌, ◌++◌, refl, ap, ◌∙◌, arith}
use Rattle.std.proofs.Math.Nat.{mod-add-mod}
use Rattle.std.proofs.lemmas.List.FromFn.{map-range_with_len_more}
use Rattle.rand_xoshiro.specs.SplitMix64.{next_state, mix_u64}
use Rattle.graph_maker.specs.Words.{state_at, word_at, words_from}

-- before the first word the state is as it was
pub state_at-zero : (state : ℕ) → state < 2 ^ 64 → state_at state 0 ≡ state
unfolding state_at
state_at-zero state fits = omega arith

-- some words, and then some more
pub state_at-state_at : (state i j : ℕ) → state_at (state_at state i) j ≡ state_at state (i + j)
unfolding state_at
state_at-state_at state i j =
    mod-add-mod (state + i * 0x9e3779b97f4a7c15) (2 ^ 64) (j * 0x9e3779b97f4a7c15)
    ∙ ap (λ n. n % 2 ^ 64) (omega arith)

-- a step of the generator takes one word
pub next_state-state_at : (state i : ℕ) → next_state (state_at state i) ≡ state_at state (i + 1)
unfolding state_at
next_state-state_at state i =
    mod-add-mod (state + i * 0x9e3779b97f4a7c15) (2 ^ 64) 0x9e3779b97f4a7c15
    ∙ ap (λ n. n % 2 ^ 64) (omega arith)

-- a state has 64 bits
pub state_at_fits : (state i : ℕ) → state_at state i < 2 ^ 64
unfolding state_at
state_at_fits state i = omega arith

-- the generator gives the words of the stream
pub mix_u64-state_at : (state i : ℕ) → mix_u64 (state_at state i) ≡ (word_at state i, state_at state (i + 1))
unfolding word_at
mix_u64-state_at state i = ap (λ n. (word_at state i, n)) (next_state-state_at state i)

-- a word from a later state is a later word
pub word_at-state_at : (state i j : ℕ) → word_at (state_at state i) j ≡ word_at state (i + j)
unfolding word_at
word_at-state_at state i j = ap (λ n. (mix_u64 n).0) (state_at-state_at state i j)

-- one word more
pub words_from-more : (state n : ℕ) → words_from state 0 (n + 1) ≡ words_from state 0 n ++ word_at state n ∷ []
words_from-more state n = map-range_with_len_more (word_at state) 0 n n (omega arith)

-- the words at places from j on, from a later state
shifted_words : (n state i j : ℕ) → words_from (state_at state i) j n ≡ words_from state (i + j) n
shifted_words zero state i j = refl
shifted_words (suc n) state i j =
    let rest = shifted_words n state i (j + 1) in
    let place : i + (j + 1) ≡ i + j + 1 = omega arith in
    ap (λ x. x ∷ words_from (state_at state i) (j + 1) n) (word_at-state_at state i j)
    ∙ ap (λ l. word_at state (i + j) ∷ l) rest
    ∙ ap (λ p. word_at state (i + j) ∷ words_from state p n) place

-- the first words from a later state
pub words_from-state_at : (state i n : ℕ) → words_from (state_at state i) 0 n ≡ words_from state i n
words_from-state_at state i n = shifted_words n state i 0 ∙ ap (λ p. words_from state p n) (omega arith)
