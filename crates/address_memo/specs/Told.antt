-- The two lists that a peer told, and what is kept once for two.
use Rattle.std.specs.Prelude.{Option, Some, None}
use Rattle.address_memo.specs.Memos.{Proxies, none}

-- the masters to which a peer reduces, and those that it wants to be told
pub record Told : Type 0 where
  pub reduce : Proxies
  pub spread : Proxies

-- the lists of a peer before it told any
abbrev pub untold : Told
untold = record { reduce = none; spread = none }

-- what is kept of its own, or else the other that stands for it
abbrev pub kept_or : {X : Type 0} → (other : X) → Option X → X
kept_or other None = other
kept_or other (Some own) = own
