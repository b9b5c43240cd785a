use Rattle.std.proofs.Common.{◌+◌, ◌*◌, ℕ, ap, ◌∙◌, arith}
use Rattle.packet_table.specs.declared.channel_spec.ChannelSpec.{ChannelSpec}
use Rattle.packet_table.specs.declared.channel_spec.Leg.{Leg}
use Rattle.round_driver.proofs.Rows.{row_more, row_same}
use Rattle.round_driver.proofs.channel_specs.add_host.Goals as goal
use Rattle.round_driver.proofs.channel_specs.add_host.Goals.{then-len-gt0+in_ok-push, else-len-gt0}

-- a channel by its parts
abbrev channel : Leg → (size from to len : ℕ) → ChannelSpec
channel leg size from to len = record { leg = leg; from = from; to = to; room = 1 + len * size }

pub loop-to-preserved : goal.loop-to-preserved
loop-to-preserved c =
    let memo = c.args.memo.now in
    let len = c.list_len-len.ensures in
    elim c.if-len-gt0.branch [
      | then-len-gt0+in_ok-push w ↦
          let some = w.if-len-gt0.true in
          ap (λ specs. specs.items) w.specs-is
          ∙ w.in_ok-push.ensures.items
          ∙ row_more c.args.leg c.args.size c.args.from memo c.loop-to.to c.args.specs.now.items c.loop-to.specs.items (channel c.args.leg c.args.size c.args.from c.loop-to.to c.list_len-len.result) c.loop-to.invariant (omega arith) (ap (channel c.args.leg c.args.size c.args.from c.loop-to.to) len)
      | else-len-gt0 w ↦
          let empty = w.if-len-gt0.false in
          ap (λ specs. specs.items) w.specs-is
          ∙ row_same c.args.leg c.args.size c.args.from memo c.loop-to.to c.args.specs.now.items c.loop-to.specs.items c.loop-to.invariant (omega arith)
    ]
