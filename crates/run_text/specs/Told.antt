-- What a run over hosts tells, round by round.
use Rattle.std.specs.Prelude.{ℕ, List, Option}
use Rattle.round_packets.specs.Runs.{Run, state_of}
use Rattle.cluster_laws.specs.Channels.{Channel, payload}

-- the packets of each round, and the answers after it
pub record Told : Type 0 where
  -- the bytes that are sent on a channel in the round after so many
  pub payload : (rounds : ℕ) → Channel → List ℕ
  -- the answer of a vertex after so many rounds
  pub answer : (rounds v : ℕ) → Option ℕ

-- what the run of a program tells, where these are the bytes of an item and of a shown value
abbrev pub told_by : {Item State Shown : Type 0} → (Item → List ℕ) → (Shown → List ℕ) → Run Item State Shown → Told
told_by item_bytes shown_bytes run = record {
  payload = payload item_bytes shown_bytes run;
  answer = λ rounds v. run.steps.answer (state_of run rounds v);
}
