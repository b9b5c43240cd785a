use Rattle.std.proofs.Common.{◌≡◌, ℕ, List, [], ◌∷◌, ◌++◌, length, length-append, codes, ap, ◌∙◌, arith}
use Rattle.io_edge.proofs.Writings.{WroteFront-++, WroteFront-more, WroteBy-++, WroteBy-err}
use Rattle.answer_writer.specs.Lines.{words_line}
use Rattle.graph_division.specs.Shares.{Share, masters_here, mirrors_here}
use Rattle.partition_text.specs.Hosts.{number_after}
use Rattle.io_edge.proofs.Texts.{all_as, front_as, by_as}
use Rattle.partition_text.proofs.hosts.write_host_line.Goals as goal

-- what follows the number of mirrors, that of masters and that of the host
abbrev edges_text : Share → List ℕ
edges_text share = words_line (codes " edges") (length share.edges ∷ [])

abbrev mirrors_text : Share → List ℕ
mirrors_text share = number_after (codes " mirrors ") (length (mirrors_here share)) ++ edges_text share

abbrev masters_text : Share → List ℕ
masters_text share = number_after (codes " masters ") (length (masters_here share)) ++ mirrors_text share

pub returns-in_err-write_number_after : goal.returns-in_err-write_number_after
returns-in_err-write_number_after g c =
    let first = front_as (ap (number_after (codes "host ")) (c.from.ensures ∙ c.host.ensures.host)) c.in_err-write_number_after.ensures.written.front in
    record { written = WroteBy-err c.from_residual.ensures.0 (WroteFront-more (masters_text c.args.graph.now) first) }

pub returns-in_err-write_number_after-2 : goal.returns-in_err-write_number_after-2
returns-in_err-write_number_after-2 g c =
    let first = all_as (ap (number_after (codes "host ")) (c.from.ensures ∙ c.host.ensures.host)) c.in_ok-write_number_after.ensures.written.all in
    let second = front_as (ap (number_after (codes " masters ")) (c.from-2.ensures ∙ c.masters-masters.ensures.masters)) c.in_err-write_number_after-2.ensures.written.front in
    record { written = WroteBy-err c.from_residual-in_err-write_number_after-2.ensures.0 (WroteFront-++ first (WroteFront-more (mirrors_text c.args.graph.now) second)) }

pub returns-in_err-write_number_after-3 : goal.returns-in_err-write_number_after-3
returns-in_err-write_number_after-3 g c =
    let share = c.args.graph.now in
    let mirrors : c.from-3.result ≡ length (mirrors_here share) = omega (arith, length-append (masters_here share) (mirrors_here share)) in
    let first = all_as (ap (number_after (codes "host ")) (c.from.ensures ∙ c.host.ensures.host)) c.in_ok-write_number_after.ensures.written.all in
    let second = all_as (ap (number_after (codes " masters ")) (c.from-2.ensures ∙ c.masters-masters.ensures.masters)) c.in_ok-write_number_after-2.ensures.written.all in
    let third = front_as (ap (number_after (codes " mirrors ")) mirrors) c.in_err-write_number_after-3.ensures.written.front in
    record { written = WroteBy-err c.from_residual-in_err-write_number_after-3.ensures.0 (WroteFront-++ first (WroteFront-++ second (WroteFront-more (edges_text share) third))) }

pub returns : goal.returns
returns g c =
    let share = c.args.graph.now in
    let mirrors : c.from-3.result ≡ length (mirrors_here share) = omega (arith, length-append (masters_here share) (mirrors_here share)) in
    let first = all_as (ap (number_after (codes "host ")) (c.from.ensures ∙ c.host.ensures.host)) c.in_ok-write_number_after.ensures.written.all in
    let second = all_as (ap (number_after (codes " masters ")) (c.from-2.ensures ∙ c.masters-masters.ensures.masters)) c.in_ok-write_number_after-2.ensures.written.all in
    let third = all_as (ap (number_after (codes " mirrors ")) mirrors) c.in_ok-write_number_after-3.ensures.written.all in
    let last = by_as (ap (λ n. words_line (codes " edges") (n ∷ [])) (c.from-4.ensures ∙ c.edges.ensures)) c.write_words.ensures.written in
    record { written = WroteBy-++ first (WroteBy-++ second (WroteBy-++ third last)) }
