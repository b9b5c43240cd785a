use Rattle.io_edge.proofs.Writings.{WroteAll-++, WroteFront-++, WroteFront-more, WroteBy-++, WroteBy-err}
use Rattle.gr_writer.specs.File.{index_of, destinations_of, padding_of, weights_of}
use Rattle.gr_writer.proofs.write.write_sections.Goals as goal

pub returns-in_err-write_head : goal.returns-in_err-write_head
returns-in_err-write_head g c =
    let list = c.args.list.now in
    WroteBy-err c.from_residual.ensures.0
    (WroteFront-more (weights_of c.args.size list.edges) (WroteFront-more (padding_of list.edges) (WroteFront-more (destinations_of list.edges) (WroteFront-more (index_of list.nodes list.edges) c.in_err-write_head.ensures.front))))

pub returns-in_err-write_index : goal.returns-in_err-write_index
returns-in_err-write_index g c =
    let list = c.args.list.now in
    let index = rw (c.nodes.ensures.nodes, c.edges-edges.ensures.edges) at c.in_err-write_index.ensures.front in
    WroteBy-err c.from_residual-in_err-write_index.ensures.0
    (WroteFront-more (weights_of c.args.size list.edges) (WroteFront-more (padding_of list.edges) (WroteFront-more (destinations_of list.edges) (WroteFront-++ c.in_ok-write_head.ensures.all index))))

pub returns-in_err-write_column : goal.returns-in_err-write_column
returns-in_err-write_column g c =
    let list = c.args.list.now in
    let index = rw (c.nodes.ensures.nodes, c.edges-edges.ensures.edges) at c.in_ok-write_index.ensures.all in
    let destinations = rw c.edges-edges.ensures.edges at c.in_err-write_column.ensures.front in
    WroteBy-err c.from_residual-in_err-write_column.ensures.0
    (WroteFront-more (weights_of c.args.size list.edges) (WroteFront-more (padding_of list.edges) (WroteFront-++ (WroteAll-++ c.in_ok-write_head.ensures.all index) destinations)))

pub returns-in_err-write_padding : goal.returns-in_err-write_padding
returns-in_err-write_padding g c =
    let list = c.args.list.now in
    let index = rw (c.nodes.ensures.nodes, c.edges-edges.ensures.edges) at c.in_ok-write_index.ensures.all in
    let destinations = rw c.edges-edges.ensures.edges at c.in_ok-write_column.ensures.all in
    let padding = rw c.edges-edges.ensures.edges at c.in_err-write_padding.ensures.front in
    WroteBy-err c.from_residual-in_err-write_padding.ensures.0
    (WroteFront-more (weights_of c.args.size list.edges) (WroteFront-++ (WroteAll-++ (WroteAll-++ c.in_ok-write_head.ensures.all index) destinations) padding))

pub returns : goal.returns
returns g c =
    let index = rw (c.nodes.ensures.nodes, c.edges-edges.ensures.edges) at c.in_ok-write_index.ensures.all in
    let destinations = rw c.edges-edges.ensures.edges at c.in_ok-write_column.ensures.all in
    let padding = rw c.edges-edges.ensures.edges at c.in_ok-write_padding.ensures.all in
    let weights = rw c.edges-edges.ensures.edges at c.write_weights.ensures in
    WroteBy-++ (WroteAll-++ (WroteAll-++ (WroteAll-++ c.in_ok-write_head.ensures.all index) destinations) padding) weights
