-- What a partition's mirrors lack, and how many of them there are.
use Rattle.std.specs.Prelude.{ℕ, ◌&&◌, Bool, not, List, length}
use Rattle.std.specs.List.{list_all, sum_by}
use Rattle.graph_model.specs.declared.edge.Way.TheVariants.{Outward}
use Rattle.graph_division.specs.Lists.{is_readable, is_writable}
use Rattle.graph_division.specs.Shares.{Share, seen, mirrors_here}

-- a vertex is the source of an edge of this host
abbrev pub has_out : Share → ℕ → Bool
has_out share v = is_readable (seen Outward share) share.host v

-- a vertex is the destination of an edge of this host
abbrev pub has_in : Share → ℕ → Bool
has_in share v = is_writable (seen Outward share) share.host v

-- a vertex is both
abbrev pub has_both : Share → ℕ → Bool
has_both share v = has_out share v && has_in share v

-- on no host is there a mirror of this kind
abbrev pub no_mirror : (Share → ℕ → Bool) → List Share → Bool
no_mirror kind shares = list_all (λ share. list_all (λ v. not (kind share v)) (mirrors_here share)) shares

-- the number of mirrors of all hosts
abbrev pub mirror_count : List Share → ℕ
mirror_count shares = sum_by (λ share. length (mirrors_here share)) shares
