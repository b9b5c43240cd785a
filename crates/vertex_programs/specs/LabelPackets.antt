-- The packets of a program of labels in the words of walks. Here `plain rounds v` is the least that walks
-- of at most so many arcs give to v.
use Rattle.std.specs.Prelude.{◌<◌, ◌+◌, ◌==◌, if◌then◌else◌, ℕ, zero, suc, min, nat_eq, nat_lt, Bool, true, false, not, Option, Some, None, List, [], ◌∷◌, map}
use Rattle.std.specs.List.{filter}
use Rattle.std.specs.Option.{option_eq}
use Rattle.graph_model.specs.Arcs.{Arc}
use Rattle.graph_model.specs.Least.{Fares, IsLeast}
use Rattle.graph_division.specs.Division.{Division}
use Rattle.graph_division.specs.Lists.{is_readable, reduce_list, broadcast_list}
use Rattle.round_packets.specs.Packets.{Packet}
use Rattle.vertex_programs.specs.Labels.{number_of}

-- these answers are, round by round, the least that walks of at most so many arcs give
abbrev pub AreLeast : Fares → (nodes : ℕ) → List Arc → (plain : ℕ → ℕ → Option ℕ) → Type 0
AreLeast fares nodes arcs plain = (rounds v : ℕ) → v < nodes → IsLeast fares arcs (Some rounds) v (plain rounds v)

-- the lesser of two answers, where none is greater than every number
abbrev pub lesser : Option ℕ → Option ℕ → Option ℕ
lesser None y = y
lesser (Some a) None = Some a
lesser (Some a) (Some b) = Some (min a b)

-- whether an answer is less than another
abbrev pub is_less : Option ℕ → Option ℕ → Bool
is_less None y = false
is_less (Some a) None = true
is_less (Some a) (Some b) = nat_lt a b

-- the least of answers
abbrev pub least_of : List (Option ℕ) → Option ℕ
least_of [] = None
least_of (x ∷ xs) = lesser x (least_of xs)

-- an answer and the cost of an arc
abbrev pub with_cost : Option ℕ → ℕ → Option ℕ
with_cost None cost = None
with_cost (Some label) cost = Some (label + cost)

-- what a host's own arcs bring to a vertex in a round: the least answer of a tail, with its arc's cost,
-- where the answers are those of the round before
abbrev pub got : Fares → Division → (plain : ℕ → ℕ → Option ℕ) → (host round v : ℕ) → Option ℕ
got fares division plain host zero v = None
got fares division plain host (suc before) v =
    least_of (map (λ arc. with_cost (plain before arc.tail) (fares.cost arc.weight)) (filter (λ arc. arc.head == v) (division.share host)))

-- what a mirror holds after a round: the answer where its host reads it, and else what it started with or
-- was brought, whichever is less
abbrev pub held : Fares → Division → (plain : ℕ → ℕ → Option ℕ) → (host round v : ℕ) → Option ℕ
held fares division plain host round v =
    if is_readable division host v then plain round v else lesser (fares.start v) (got fares division plain host round v)

-- what mirrors on one host send to their masters on another in the round after so many: whatever was
-- brought that is less than what was held
abbrev pub label_reduce_packet : (none : ℕ) → Fares → Division → (plain : ℕ → ℕ → Option ℕ) → (rounds from to : ℕ) → Packet ℕ
label_reduce_packet none fares division plain rounds from to = record {
  ids = reduce_list division from to;
  updated = λ v. is_less (got fares division plain from (suc rounds) v) (held fares division plain from rounds v);
  value = λ v. number_of none (lesser (got fares division plain from (suc rounds) v) (held fares division plain from rounds v));
}

-- what masters on one host tell their mirrors on another in it: the answers that changed
abbrev pub label_broadcast_packet : (none : ℕ) → Division → (plain : ℕ → ℕ → Option ℕ) → (rounds from to : ℕ) → Packet ℕ
label_broadcast_packet none division plain rounds from to = record {
  ids = broadcast_list division from to;
  updated = λ v. not (option_eq nat_eq (plain rounds v) (plain (suc rounds) v));
  value = λ v. number_of none (plain (suc rounds) v);
}
