use Rattle.std.proofs.Common.{◌≡◌, ◌-◌, ℕ, List, ◌++◌, map, ap, sym, ◌∙◌, arith}
use Rattle.std.specs.List.{filter, range_with_len}
use Rattle.graph_division.specs.Shares.{seen}
use Rattle.address_memo.specs.Memos.{Proxies}
use Rattle.memo_exchange.specs.Asks.{has_news}
use Rattle.memo_exchange.specs.Letters.{Sent, letter_to}
use Rattle.memo_exchange.proofs.News.{reduce_short, spread_short, told, posted_more, posted_same}
use Rattle.memo_exchange.proofs.posting.post_from.Goals as goal
use Rattle.memo_exchange.proofs.posting.post_from.Goals.{then-tells+in_ok-bytes+in_ok-push, else-tells}

-- a letter by its parts
abbrev letter : (from to : ℕ) → List ℕ → Sent
letter from to bytes = record { from = from; to = to; bytes = bytes }

pub payload_of-requires-clause-reduce : goal.payload_of-requires-clause-reduce
payload_of-requires-clause-reduce c =
    let test = c.loop-to-test.true in
    let count = c.hosts-to-end.ensures.hosts in
    reduce_short c.args.way c.args.graph.now c.args.memo.now c.loop-to.to c.requires (omega arith) c.hosts-to-end.ensures.facts c.globals-reduce.result.now (c.globals-reduce.ensures.globals ∙ ap (λ (list : Proxies). list.globals) c.list.ensures.list)

pub payload_of-requires-clause-spread : goal.payload_of-requires-clause-spread
payload_of-requires-clause-spread c =
    let test = c.loop-to-test.true in
    let count = c.hosts-to-end.ensures.hosts in
    spread_short c.args.way c.args.graph.now c.args.memo.now c.loop-to.to c.requires (omega arith) c.hosts-to-end.ensures.facts c.globals-spread.result.now (c.globals-spread.ensures.globals ∙ ap (λ (list : Proxies). list.globals) c.list-then-tells.ensures.list)

pub loop-to-preserved : goal.loop-to-preserved
loop-to-preserved c =
    let test = c.loop-to-test.true in
    let count = c.hosts-to-end.ensures.hosts in
    elim c.if-tells.branch [
      | then-tells+in_ok-bytes+in_ok-push w ↦
          let says = told c.args.way c.args.graph.now c.args.memo.now c.loop-to.to c.requires (omega arith) w.in_ok-bytes.bytes.items w.globals-reduce.result.now w.globals-spread.result.now w.in_ok-bytes.ensures
          (w.globals-reduce.ensures.globals ∙ ap (λ (list : Proxies). list.globals) w.list.ensures.list) (w.globals-spread.ensures.globals ∙ ap (λ (list : Proxies). list.globals) w.list-then-tells.ensures.list) in
          let is : w.new.result ≡ letter_to c.args.way c.args.graph.now c.loop-to.to
          = w.new.ensures
          ∙ ap (λ n. letter n c.loop-to.to w.in_ok-bytes.bytes.items) c.host-host.ensures.host
          ∙ ap (λ (l : List ℕ). letter c.args.graph.now.host c.loop-to.to l) says in
          ap (λ mail. mail.items) w.mail-is
          ∙ w.in_ok-push.ensures.items
          ∙ posted_more c.args.way c.args.graph.now c.loop-to.to c.args.mail.now.items c.loop-to.mail.items c.loop-to.invariant w.new.result is (sym c.tells.ensures ∙ w.if-tells.true)
      | else-tells w ↦
          ap (λ mail. mail.items) w.mail-is
          ∙ posted_same c.args.way c.args.graph.now c.loop-to.to c.args.mail.now.items c.loop-to.mail.items c.loop-to.invariant (sym c.tells.ensures ∙ w.if-tells.false)
    ]

pub returns : goal.returns
returns c =
    let done = c.loop-to-test.false in
    let end = c.loop-to.auto.to-end in
    let count = c.hosts-to-end.ensures.hosts in
    let last : c.loop-to.to - 0 ≡ c.args.graph.now.hosts = omega arith in
    c.loop-to.invariant ∙ ap (λ n. c.args.mail.now.items ++ map (letter_to c.args.way c.args.graph.now) (filter (has_news (seen c.args.way c.args.graph.now) c.args.graph.now.host) (range_with_len 0 n))) last
