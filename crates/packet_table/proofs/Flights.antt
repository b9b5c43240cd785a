-- What a post and a take leave of the fields of a table of channels.
use Rattle.std.specs.Prelude.{◌≡◌, ℕ, ◌+◌, ◌-◌, ◌≤◌, ◌<◌, ◌^◌, Bool, false, true, cond, List, length, slice_get, slice_index, slice_set, Some}
use Rattle.std.proofs.Common.{arith, inl, inr, subst, ap, ◌∙◌}
use Rattle.std.proofs.lemmas.Bool.{cases_eq}
use Rattle.std.proofs.lemmas.List.{length-set, get_or-set_other}
use Rattle.std.proofs.lemmas.Grind.{get_or-set_at}
use Rattle.std.proofs.lemmas.Option.{get_or_from_slice_get, slice_get_within}
use Rattle.list_laws.specs.Members.{has_member, IsMember, members, count_of, with_member, without_member}
use Rattle.list_laws.proofs.Members.{count_of-with, count_of-without, count_of-le-length, All-members, All-members_below}
use Rattle.packet_table.specs.declared.channel_spec.ChannelSpec.{ChannelSpec}
use Rattle.packet_table.specs.Table.{rooms_of}
use Rattle.packet_table.specs.Block.{IsLaidOut}

-- one length within its room more leaves all within theirs
fit_set : (rooms lengths : List ℕ) (id len : ℕ) → id < length lengths → len ≤ slice_index rooms id → ((k : ℕ) → slice_index lengths k ≤ slice_index rooms k)
    → (k : ℕ) → slice_index (slice_set lengths id len) k ≤ slice_index rooms k
fit_set rooms lengths id len h fits fit k =
    elim (cases_eq k id) [
      | inl same ↦ omega (arith, get_or-set_at lengths id k len 0 same h, ap (λ n. slice_index rooms n) same)
      | inr other ↦ omega (arith, get_or-set_other lengths id k len 0 other, fit k)
    ]

module _ (specs : List ChannelSpec) (starts lengths block : List ℕ) (flying : List Bool) (flying_count : ℕ) (laid : IsLaidOut specs starts lengths block flying flying_count) where
  -- one more channel in flight counts one more, which fits
  pub posted_count : (id : ℕ) → id < length specs → has_member flying id ≡ false → (flying_count + 1 ≡ count_of (with_member flying id)) × (flying_count + 1 < 2 ^ 32)
  posted_count id h resting =
      let within : id < length flying = omega (arith, laid.flights) in
      let none : cond {A = ℕ} (has_member flying id) 1 0 ≡ 0 = ap (λ (b : Bool). cond {A = ℕ} b 1 0) resting in
      let more = count_of-with flying id within in
      let most = count_of-le-length (with_member flying id) in
      let long : length (with_member flying id) ≡ length flying = length-set flying id true in
      (omega (arith, laid.counted), omega (arith, laid.counted, laid.flights, laid.few))

  -- the fields after a post
  pub laid_posted : (id len : ℕ) → id < length specs → has_member flying id ≡ false → len ≤ slice_index (rooms_of specs) id
      → IsLaidOut specs starts (slice_set lengths id len) block (with_member flying id) (flying_count + 1)
  laid_posted id len h resting fits = record {
    rise = laid.rise;
    few = laid.few;
    bounded = laid.bounded;
    started = laid.started;
    fills = laid.fills;
    payloads = length-set lengths id len ∙ laid.payloads;
    fit = fit_set (rooms_of specs) lengths id len (omega (arith, laid.payloads)) fits laid.fit;
    flights = length-set flying id true ∙ laid.flights;
    counted = (posted_count id h resting).0;
  }

  -- what is in flight is a channel
  pub taken_within : (place id : ℕ) → slice_get (members flying) place ≡ Some id → id < length specs
  taken_within place id at =
      let below = subst (λ m. m < length flying) (get_or_from_slice_get (members flying) place id 0 at) (All-members_below flying place 0 (slice_get_within (members flying) place id at)) in
      omega (arith, laid.flights)

  -- and in flight
  pub taken_flies : (place id : ℕ) → slice_get (members flying) place ≡ Some id → IsMember flying id
  taken_flies place id at =
      subst (λ m. IsMember flying m) (get_or_from_slice_get (members flying) place id 0 at) (All-members flying place 0 (slice_get_within (members flying) place id at))

  -- the fields after a take
  pub laid_taken : (place id : ℕ) → slice_get (members flying) place ≡ Some id → IsLaidOut specs starts lengths block (without_member flying id) (flying_count - 1)
  laid_taken place id at =
      let one : cond {A = ℕ} (has_member flying id) 1 0 ≡ 1 = ap (λ (b : Bool). cond {A = ℕ} b 1 0) (taken_flies place id at) in
      let less = count_of-without flying id (omega (arith, laid.flights, taken_within place id at)) in
      record {
        rise = laid.rise;
        few = laid.few;
        bounded = laid.bounded;
        started = laid.started;
        fills = laid.fills;
        payloads = laid.payloads;
        fit = laid.fit;
        flights = length-set flying id false ∙ laid.flights;
        counted = omega (arith, laid.counted);
      }
