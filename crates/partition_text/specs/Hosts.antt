-- The lines that tell a host and its proxies.
use Rattle.std.specs.Prelude.{ℕ, Bool, true, false, List, [], ◌∷◌, ◌++◌, length, codes, decimal}
use Rattle.std.specs.List.{flat_map, slice_index_or}
use Rattle.answer_writer.specs.Lines.{words_line}
use Rattle.graph_model.specs.declared.edge.Way.{Way}
use Rattle.graph_division.specs.Lists.{is_readable, is_writable}
use Rattle.graph_division.specs.Shares.{Share, seen, masters_here, mirrors_here, proxies_here}
use Rattle.graph_division.specs.Classes.{has_out, has_in}

-- a text, and the number right after it
abbrev pub number_after : (before : List ℕ) → ℕ → List ℕ
number_after before n = before ++ decimal n

-- a host, how many masters and mirrors it has, and how many edges
abbrev pub host_line : Share → List ℕ
host_line share =
    number_after (codes "host ") share.host
    ++ (number_after (codes " masters ") (length (masters_here share))
    ++ (number_after (codes " mirrors ") (length (mirrors_here share))
    ++ words_line (codes " edges") (length share.edges ∷ [])))

-- the letter where it is so, else `-`
abbrev pub flag : (letter : ℕ) → Bool → ℕ
flag letter true = letter
flag letter false = 45

-- What a vertex is on a host, after a space and before a newline: `o` the source of an edge of the host, `i` the
-- destination of one, `r` read there and `w` written there, where edges are followed in this way.
abbrev pub flags_end : Way → Share → (v : ℕ) → List ℕ
flags_end way share v =
    32 ∷ flag 111 (has_out share v) ∷ flag 105 (has_in share v)
    ∷ flag 114 (is_readable (seen way share) share.host v) ∷ flag 119 (is_writable (seen way share) share.host v) ∷ 10 ∷ []

-- a host, the vertex of one of its proxies, the host of the vertex's master, and what the vertex is there
abbrev pub proxy_line : Way → Share → (v : ℕ) → List ℕ
proxy_line way share v =
    number_after (codes "proxy ") share.host
    ++ (number_after (codes " ") v
    ++ (number_after (codes " ") (slice_index_or share.masters v 0)
    ++ flags_end way share v))

-- a host, and then its proxies by local number: masters first, then mirrors, each rising
abbrev pub host_text : Way → Share → List ℕ
host_text way share = host_line share ++ flat_map (proxy_line way share) (proxies_here share)
