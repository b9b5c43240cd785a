-- What the values of options are: numbers and choices.
use Rattle.std.specs.Prelude.{ℕ, ◌&&◌, length, codes, Option, Some, None, nat_lt, nat_le, if◌then◌else◌}
use Rattle.std.specs.Char.{is_ascii_digit}
use Rattle.std.specs.List.{list_all}
use Rattle.std.specs.Str.{bytes_eq}
use Rattle.std.specs.Str.Parse.{digits_value}
use Rattle.graph_model.specs.declared.edge.Way.{Way}
use Rattle.graph_model.specs.declared.edge.Way.TheVariants.{Outward, Inward, Both}
use Rattle.cusp_rules.specs.declared.master_rule.MasterRule.{MasterRule}
use Rattle.cusp_rules.specs.declared.master_rule.MasterRule.TheVariants.{Edges, Nodes}
use Rattle.edge_owner.specs.declared.owner_rule.OwnerRule.{OwnerRule}
use Rattle.edge_owner.specs.declared.owner_rule.OwnerRule.TheVariants.{Source, Dest, Hybrid, Cartesian}
use Rattle.command_words.specs.Items.{Text}

-- one to twenty digits, which write a number from `least` to `most`
abbrev pub number_of : ℕ → ℕ → Text → Option ℕ
number_of least most text =
    if nat_lt 0 (length text) && nat_le (length text) 20 && list_all is_ascii_digit text
    && nat_le least (digits_value 10 text) && nat_le (digits_value 10 text) most
    then Some (digits_value 10 text) else None

-- the number of an option that must be given
abbrev pub number_needed : ℕ → ℕ → Option Text → Option ℕ
number_needed least most None = None
number_needed least most (Some text) = number_of least most text

-- the number of an option that has a default
abbrev pub number_or : ℕ → ℕ → ℕ → Option Text → Option ℕ
number_or default least most None = Some default
number_or default least most (Some text) = number_of least most text

-- the way of `--way`, where `auto` is the program's own
abbrev pub way_of : Way → Option Text → Option Way
way_of auto None = Some auto
way_of auto (Some text) =
    if bytes_eq text (codes "auto") then Some auto
    else if bytes_eq text (codes "out") then Some Outward
    else if bytes_eq text (codes "in") then Some Inward
    else if bytes_eq text (codes "both") then Some Both
    else None

-- the rule of `--masters`
abbrev pub masters_of : Option Text → Option MasterRule
masters_of None = Some Edges
masters_of (Some text) =
    if bytes_eq text (codes "edges") then Some Edges
    else if bytes_eq text (codes "nodes") then Some Nodes
    else None

-- the rule of `--owner`, one of which has the threshold
abbrev pub owner_of : ℕ → Option Text → Option OwnerRule
owner_of threshold None = Some Source
owner_of threshold (Some text) =
    if bytes_eq text (codes "source") then Some Source
    else if bytes_eq text (codes "dest") then Some Dest
    else if bytes_eq text (codes "hybrid") then Some (Hybrid threshold)
    else if bytes_eq text (codes "cartesian") then Some Cartesian
    else None
