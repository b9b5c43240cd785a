use Rattle.std.proofs.Common.{subst, arith, ◌∙◌, ℕ, ◌-◌, length, ap, Some}
use Rattle.proxy_graph.proofs.Read.{kept, length-proxies, few_proxies, nodes_fit, at_master, at_mirror, mirrors_rise, no_proxy}
use Rattle.std.proofs.Common.{List, Ok, Err}
use Rattle.std.specs.List.Sorted.{IsBinarySearchResult}
use Rattle.std.specs.Ordering.{nat_cmp}
use Rattle.list_laws.proofs.Among.{not_among}
use Rattle.proxy_graph.proofs.Read.{found_at}
use Rattle.proxy_graph.proofs.local_graph.LocalGraph.local.Goals.{else-gid-self-via-then-gid-self+else-gid-self-2, else-gid-self-via-else-gid-self}
use Rattle.proxy_graph.proofs.local_graph.LocalGraph.local.Goals as goal

pub returns-then-gid-self-2 : goal.returns-then-gid-self-2
returns-then-gid-self-2 c = at_master c.args.self.now c.self.inside (kept c.self.inside c.args.self.now c.self.view_is c.self.invariant) (c.args.gid - c.self.inside.first) c.if-gid-self-2.true ∙ ap Some (omega arith)

pub overflow_cast-result : goal.overflow_cast-result
overflow_cast-result c = omega (arith, length-proxies c.args.self.now c.self.inside (kept c.self.inside c.args.self.now c.self.view_is c.self.invariant), few_proxies c.args.self.now, nodes_fit c.args.self.now c.self.inside (kept c.self.inside c.args.self.now c.self.view_is c.self.invariant), c.in-Ok.ensures.bound, ap length c.deref.ensures.value)

pub overflow_add-result : goal.overflow_add-result
overflow_add-result c = omega (arith, length-proxies c.args.self.now c.self.inside (kept c.self.inside c.args.self.now c.self.view_is c.self.invariant), few_proxies c.args.self.now, nodes_fit c.args.self.now c.self.inside (kept c.self.inside c.args.self.now c.self.view_is c.self.invariant), c.in-Ok.ensures.bound, ap length c.deref.ensures.value)

pub returns-in-Ok : goal.returns-in-Ok
returns-in-Ok c =
    let same = c.deref.ensures.value in
    let P : List ℕ → Type 0 = λ xs. IsBinarySearchResult (λ y. nat_cmp y c.args.gid) xs (Ok c.in-Ok.place) in
    let found = found_at c.self.inside.mirrors.items c.args.gid c.in-Ok.place (mirrors_rise c.args.self.now c.self.inside (kept c.self.inside c.args.self.now c.self.view_is c.self.invariant)) (subst P same c.in-Ok.ensures.position) in
    at_mirror c.args.self.now c.self.inside (kept c.self.inside c.args.self.now c.self.view_is c.self.invariant) c.in-Ok.place c.args.gid found.0 found.1

pub returns-in-Err : goal.returns-in-Err
returns-in-Err c =
    let same = c.deref.ensures.value in
    let P : List ℕ → Type 0 = λ xs. IsBinarySearchResult (λ y. nat_cmp y c.args.gid) xs (Err c.in-Err.field-0) in
    no_proxy c.args.self.now c.self.inside (kept c.self.inside c.args.self.now c.self.view_is c.self.invariant) c.args.gid
    (λ low high. elim c.else-gid-self.branch [ else-gid-self-via-then-gid-self+else-gid-self-2 w ↦ omega arith | else-gid-self-via-else-gid-self w ↦ omega arith ])
    (not_among c.self.inside.mirrors.items c.args.gid c.in-Err.field-0 (mirrors_rise c.args.self.now c.self.inside (kept c.self.inside c.args.self.now c.self.view_is c.self.invariant)) (subst P same c.in-Err.ensures.position))
