-- The words of SplitMix64 (Steele, Lea and Flood, OOPSLA 2014). Its state is one number, which grows
-- by the same constant with each word, and a word is the mix of the state that it leaves.
use Rattle.std.specs.Prelude.{ℕ, ◌+◌, ◌*◌, ◌%◌, ◌^◌, List, map}
use Rattle.std.specs.List.{range_with_len}
use Rattle.rand_xoshiro.specs.SplitMix64.{mix_u64}

-- the state after this many words from a state
unfoldable pub state_at : ℕ → ℕ → ℕ
state_at state taken = (state + taken * 0x9e3779b97f4a7c15) % 2 ^ 64

-- a word of the stream from a state; the first is word 0
unfoldable pub word_at : ℕ → ℕ → ℕ
word_at state place = (mix_u64 (state_at state place)).0

-- this many words of the stream from a state, the first of them at a place
abbrev pub words_from : ℕ → ℕ → ℕ → List ℕ
words_from state place count = map (word_at state) (range_with_len place count)
