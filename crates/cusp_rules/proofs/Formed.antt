-- The block of a vertex, where the last host has what is past the last block, is its rule's master.
use Rattle.std.proofs.Common.{◌≡◌, ℕ, ◌-◌, ◌*◌, ◌/◌, ◌<◌, ◌≤◌, min, List, length, map, slice_index, slice_index_or, refl, sym, ◌∙◌, arith}
use Rattle.std.specs.Int.{div_ceil}
use Rattle.std.specs.List.{range_with_len}
use Rattle.std.specs.List.Sorted.{IsNonDecreasing}
use Rattle.std.proofs.Math.Nat.{mul-le-mul_left}
use Rattle.std.proofs.lemmas.Nat.{div_below}
use Rattle.std.proofs.lemmas.Grind.{div_ceil_times}
use Rattle.std.proofs.lemmas.List.FromFn.{length-map-range_with_len, get_or-map-range_with_len}
use Rattle.cusp_rules.specs.Assignment.{IsAssignment}
use Rattle.cusp_rules.specs.Hosts.{IsHostCount}
use Rattle.cusp_rules.specs.Blocks.{block_of, quotient_of}
use Rattle.cusp_rules.specs.Formulas.{IsStarts, block_size, master_of, masters_of, vertices_of}
use Rattle.cusp_rules.proofs.Firsts.{div-le-div}
use Rattle.cusp_rules.specs.declared.master_rule.MasterRule.{MasterRule}
use Rattle.cusp_rules.specs.declared.master_rule.MasterRule.TheVariants.{Edges, Nodes}

-- one block a host is enough
le-blocks : (whole hosts : ℕ) → 0 < hosts → whole ≤ hosts * block_size whole hosts
le-blocks whole hosts some =
    let share = (div_ceil_times whole hosts some).0 in
    let more : hosts * div_ceil whole hosts ≤ hosts * block_size whole hosts = mul-le-mul_left hosts (omega arith) in
    omega (arith, share, more)

-- a block is not empty
block_positive : (whole hosts : ℕ) → 0 < block_size whole hosts
block_positive whole hosts = omega arith

pub block_of_positive : (rule : MasterRule) (hosts : ℕ) (starts : List ℕ) → 0 < block_of rule hosts starts
block_of_positive Edges hosts starts = omega arith
block_of_positive Nodes hosts starts = omega arith

pub block_is_master : (rule : MasterRule) (hosts : ℕ) (starts : List ℕ) → IsHostCount hosts → (v : ℕ) → v < vertices_of starts → min (hosts - 1) (quotient_of rule (block_of rule hosts starts) starts v) ≡ master_of rule hosts starts v
block_is_master Edges hosts starts count v vertex = refl
block_is_master Nodes hosts starts count v vertex =
    let whole = le-blocks (vertices_of starts) hosts count.some_host in
    let low : v / block_size (vertices_of starts) hosts < hosts = div_below v (block_size (vertices_of starts) hosts) hosts (block_positive (vertices_of starts) hosts) (omega (arith, whole)) in
    omega (arith, low)

-- blocks do not fall along the vertices
quotient_rises : (rule : MasterRule) (block : ℕ) (starts : List ℕ) → 0 < block → IsNonDecreasing starts → (v w : ℕ) → v ≤ w → w < vertices_of starts → quotient_of rule block starts v ≤ quotient_of rule block starts w
quotient_rises Edges block starts positive rises v w order vertex = div-le-div (slice_index starts v) (slice_index starts w) block positive (rises v w 0 order (omega arith))
quotient_rises Nodes block starts positive rises v w order vertex = div-le-div v w block positive order

-- what a rule gives is an assignment
pub IsAssignment-masters_of : (rule : MasterRule) (hosts : ℕ) (starts : List ℕ) → IsHostCount hosts → IsStarts starts → IsAssignment (record { hosts = hosts; masters = masters_of rule hosts starts })
IsAssignment-masters_of rule hosts starts count ok =
    let nodes = vertices_of starts in
    let master = master_of rule hosts starts in
    let block = block_of rule hosts starts in
    let length_is : length (map master (range_with_len 0 nodes)) ≡ nodes = length-map-range_with_len master 0 nodes in
    let at : (v d : ℕ) → v < nodes → slice_index_or (map master (range_with_len 0 nodes)) v d ≡ min (hosts - 1) (quotient_of rule block starts v)
    = λ v d vertex. get_or-map-range_with_len master 0 nodes v v d vertex (omega arith) ∙ sym (block_is_master rule hosts starts count v vertex) in
    record {
      hosts_fit = count;
      vertices_fit = omega (arith, length_is, ok.vertices_fit);
      on_hosts = λ v d here. omega (arith, at v d (omega (arith, length_is)), count.some_host);
      contiguous = λ v w d order here.
          omega (arith, at v d (omega (arith, length_is)), at w d (omega (arith, length_is)), quotient_rises rule block starts (block_of_positive rule hosts starts) ok.rises v w order (omega (arith, length_is)));
    }
