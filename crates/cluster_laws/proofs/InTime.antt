-- In a cluster that stands for a round, packets come in time.
use Rattle.std.proofs.Common.{◌≡◌, ℕ, zero, suc, ◌+◌, ◌<◌, ◌≤◌, true, false, Bool, not, ◌&&◌, ◌||◌, ◌==◌, nat_lt, List, [], ◌∷◌, get_or, refl, sym, ◌∙◌, ap, ◌⊎◌, inl, inr, arith}
use Rattle.std.specs.List.{list_any, range_with_len}
use Rattle.std.proofs.lemmas.Bool.{cases_Bool, both_ways, and_parts, and_from, or_left, or_right, or_from, eq-eqb, ltb-true, lt-ltb}
use Rattle.std.proofs.lemmas.Bool.Decides.{eqb_tells}
use Rattle.round_packets.specs.Runs.{Run, IsRun}
use Rattle.graph_division.specs.Lists.{is_writable, reduce_list}
use Rattle.graph_division.proofs.PrunedLists.{written_is_reduced}
use Rattle.host_laws.specs.HostView.{HostView}
use Rattle.host_laws.specs.Standing.{HasAllReduced, NoneIsWritten}
use Rattle.cluster_laws.specs.Channels.{Leg, Channel, is_needed, is_channel, list_of, payload}
use Rattle.cluster_laws.specs.Channels.Leg.{reduce, broadcast}
use Rattle.cluster_laws.specs.Events.Event.{deliver}
use Rattle.cluster_laws.specs.Cluster.{ClusterView, ClusterStands, happened, expects_reduce}

-- a list that has a vertex in it is needed
pub needed_from : (ids : List ℕ) (v : ℕ) → list_any (λ id. id == v) ids ≡ true → is_needed ids ≡ true
needed_from [] v h = h
needed_from (x ∷ ids) v h = refl

-- and one that is needed has one
needed_has : (ids : List ℕ) → is_needed ids ≡ true → (v : ℕ) × (list_any (λ id. id == v) ids ≡ true)
needed_has [] h = absurd (both_ways false refl h)
needed_has (x ∷ ids) h = (x, ap (λ b. b || list_any (λ id. id == x) ids) (eq-eqb x x refl))

-- of two, the second holds where the first does not
pub second_of : (a b : Bool) → a ≡ false → (a || b) ≡ true → b ≡ true
second_of true b h e = absurd (both_ways true h refl)
second_of false b h e = e

-- what is false together is false
pub second_false : (a b : Bool) → (a || b) ≡ false → b ≡ false
second_false true b h = absurd (both_ways true h refl)
second_false false b h = h

pub first_false : (a b : Bool) → (a || b) ≡ false → a ≡ false
first_false true b h = absurd (both_ways true h refl)
first_false false b h = refl

-- what no number of a range passes, none passes
pub none_passes : (p : ℕ → Bool) (first count k : ℕ) → list_any p (range_with_len first count) ≡ false → first ≤ k → k < first + count → p k ≡ false
none_passes p first zero k h low high = absurd (omega arith)
none_passes p first (suc count) k h low high =
    elim (eqb_tells first k) [
      | inl same ↦ ap p (sym same.1) ∙ first_false (p first) (list_any p (range_with_len (first + 1) count)) h
      | inr other ↦ none_passes p (first + 1) count k (second_false (p first) (list_any p (range_with_len (first + 1) count)) h) (let apart = other.1 in omega arith) (omega arith)
    ]

-- and the other way round
pub none_together : (p : ℕ → Bool) (first count : ℕ) → ((k : ℕ) → k < first + count → p k ≡ false) → list_any p (range_with_len first count) ≡ false
none_together p first zero h = refl
none_together p first (suc count) h = or_from (p first) (list_any p (range_with_len (first + 1) count)) (h first (omega arith)) (none_together p (first + 1) count (λ k less. h k (omega arith)))

-- who is needed and not denied is there
pub not_missing : (a b : Bool) → (a && not b) ≡ false → a ≡ true → b ≡ true
not_missing true true h e = refl
not_missing true false h e = absurd (both_ways true h refl)
not_missing false b h e = absurd (both_ways false refl e)

pub denied : (b : Bool) → not b ≡ true → b ≡ false
denied true h = absurd (both_ways false refl h)
denied false h = refl

-- the parts of a channel of the run
pub record ChannelParts {Item State Shown : Type 0} (run : Run Item State Shown) (channel : Channel) : Type 0 where
  pub there : channel.from < run.division.hosts
  pub here : channel.to < run.division.hosts
  pub listed : is_needed (list_of run.division channel.leg channel.from channel.to) ≡ true

pub channel_parts : {Item State Shown : Type 0} (run : Run Item State Shown) (channel : Channel) → is_channel run.division channel ≡ true → ChannelParts run channel
channel_parts run channel is =
    let parts = and_parts (nat_lt channel.from run.division.hosts && nat_lt channel.to run.division.hosts) (is_needed (list_of run.division channel.leg channel.from channel.to)) is in
    let hosts = and_parts (nat_lt channel.from run.division.hosts) (nat_lt channel.to run.division.hosts) parts.0 in
    record { there = ltb-true channel.from run.division.hosts hosts.0; here = ltb-true channel.to run.division.hosts hosts.1; listed = parts.1 }

pub channel_from : {Item State Shown : Type 0} (run : Run Item State Shown) (leg : Leg) (from to : ℕ) → from < run.division.hosts → to < run.division.hosts → is_needed (list_of run.division leg from to) ≡ true → is_channel run.division (record { leg = leg; from = from; to = to }) ≡ true
channel_from run leg from to there here listed =
    and_from (nat_lt from run.division.hosts && nat_lt to run.division.hosts) (is_needed (list_of run.division leg from to))
    (and_from (nat_lt from run.division.hosts) (nat_lt to run.division.hosts) (lt-ltb from run.division.hosts there) (lt-ltb to run.division.hosts here)) listed

-- a host that expects no reduce packet has all
pub all_reduced : {Program Item State Shown : Type 0} (run : Run Item State Shown) (view : HostView Program Item State Shown) → expects_reduce run.division view ≡ false → HasAllReduced run.division view
all_reduced run view none from v there listed =
    not_missing (is_needed (reduce_list run.division from view.host)) (get_or view.took_reduce from false)
    (none_passes (λ a. is_needed (reduce_list run.division a view.host) && not (get_or view.took_reduce a false)) 0 run.division.hosts from none (omega arith) (omega arith))
    (needed_from (reduce_list run.division from view.host) v listed)

module _ {Program Item State Shown : Type 0} {item_bytes : Item → List ℕ} {shown_bytes : Shown → List ℕ} (run : Run Item State Shown) (rounds : ℕ) (cluster : ClusterView Program Item State Shown) (stands : ClusterStands item_bytes shown_bytes run rounds cluster) where
  -- a reduce packet is in flight only to a host that has not spread
  pub reduce_in_time : (from to : ℕ) → cluster.flies (record { leg = reduce; from = from; to = to }) ≡ true → (cluster.hosts to).has_spread ≡ false
  reduce_in_time from to flies =
      elim (cases_Bool (cluster.hosts to).has_spread) [
        | inr waits ↦ waits
        | inl done ↦
            let parts = channel_parts run (record { leg = reduce; from = from; to = to }) (stands.needed (record { leg = reduce; from = from; to = to }) flies) in
            let listed = needed_has (reduce_list run.division from to) parts.listed in
            absurd (both_ways (get_or (cluster.hosts to).took_reduce from false) (stands.once (record { leg = reduce; from = from; to = to }) flies)
            ((stands.each to parts.here).reduced_first done from listed.0 parts.there (ap (λ h. list_any (λ id. id == listed.0) (reduce_list run.division from h)) (stands.named to parts.here) ∙ listed.1)))
      ]

  -- what is in flight is the round's packet
  pub flight_is_packet : (channel : Channel) → cluster.flies channel ≡ true → cluster.bytes channel ≡ payload item_bytes shown_bytes run rounds channel
  flight_is_packet channel flies =
      let needed = stands.needed channel flies in
      stands.payloads channel needed (sym (stands.sent channel needed) ∙ or_left (cluster.flies channel) (happened cluster (deliver channel)) flies)

module _ {Program Item State Shown : Type 0} {IsItem : Item → Type 0} {IsShown : Shown → Type 0} {IsState : State → Type 0} {item_bytes : Item → List ℕ} {shown_bytes : Shown → List ℕ} (run : Run Item State Shown) (fact : IsRun IsItem IsShown IsState run) (rounds : ℕ) (cluster : ClusterView Program Item State Shown) (stands : ClusterStands item_bytes shown_bytes run rounds cluster) where
  -- where a broadcast comes before its receiver has computed, none of its list is written there
  pub broadcast_in_time : (from to : ℕ) → cluster.flies (record { leg = broadcast; from = from; to = to }) ≡ true → ((cluster.hosts to).has_computed ≡ true) ⊎ NoneIsWritten run.division from (cluster.hosts to)
  broadcast_in_time from to flies =
      elim (cases_Bool (cluster.hosts to).has_computed) [
        | inl computed ↦ inl computed
        | inr early ↦ inr (λ v below told. elim (cases_Bool (is_writable run.division (cluster.hosts to).host v)) [
          | inr unwritten ↦ unwritten
          | inl written ↦
              let parts = channel_parts run (record { leg = broadcast; from = from; to = to }) (stands.needed (record { leg = broadcast; from = from; to = to }) flies) in
              let there = stands.named to parts.here in
              let here = stands.named from parts.there in
              let sends = written_is_reduced run.division (cluster.hosts to).host from v below told written in
              let listed = ap (λ h. list_any (λ id. id == v) (reduce_list run.division h from)) (sym there) ∙ sends in
              let done = sym (stands.sent (record { leg = broadcast; from = from; to = to }) (stands.needed (record { leg = broadcast; from = from; to = to }) flies))
              ∙ ap (λ b. b || get_or (cluster.hosts to).took_broadcast from false) flies in
              let taken = (stands.each from parts.there).reduced_first done to v parts.here (ap (λ h. list_any (λ id. id == v) (reduce_list run.division to h)) here ∙ listed) in
              absurd (both_ways (cluster.hosts to).has_computed early
              (sym (stands.sent (record { leg = reduce; from = to; to = from }) (channel_from run reduce to from parts.here parts.there (needed_from (reduce_list run.division to from) v listed)))
              ∙ or_right (cluster.flies (record { leg = reduce; from = to; to = from })) (get_or (cluster.hosts from).took_reduce to false) taken))
        ])
      ]
