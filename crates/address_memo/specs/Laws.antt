-- Memos fit: at the start, and as long as they accept lists of masters.
use Rattle.std.specs.Prelude.{ℕ}
use Rattle.graph_model.specs.declared.edge.Way.{Way}
use Rattle.graph_division.specs.Shares.{Share}
use Rattle.address_memo.specs.Memos.{Memos, Proxies, opened, with_accepted, AreMasters, Fits}

pub record MemosFit : Type 0 where
  -- a memo fits the share and the way that it was opened for
  pub at_start : (way : Way) (share : Share) → Fits way share (opened way share)
  -- a memo that fits still does when lists of the host's masters are accepted, as `read_memo` gives them
  pub still : (way : Way) (share : Share) (memo : Memos) (peer : ℕ) (reduce spread : Proxies)
      → Fits way share memo → AreMasters share reduce → AreMasters share spread → Fits way share (with_accepted memo peer reduce spread)
