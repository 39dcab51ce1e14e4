-- An execution as a checkpoint, from which it goes on without the entries before.
use Rattle.std.specs.Prelude.{◌≡◌, ◌≤◌, ◌<◌, ◌+◌, ◌-◌, ◌^◌, ◌&&◌, ◌==◌, ℕ, List, [], ◌∷◌, length, Option, Some, Bool, true, nat_le, IsTrue}
use Rattle.std.specs.List.{list_all, AllByRecursion}
use Rattle.std.specs.Option.{option_map}
use Rattle.std.specs.FinMap as finite
use Rattle.nop_types.specs.declared.limits.TheConstants.{MAX_RESULT_BYTES, MAX_HOST_BYTES, MAX_SERVED, WINDOW}
use Rattle.nop_types.specs.declared.checkpoint.SavedClient.{SavedClient}
use Rattle.nop_types.specs.Meaning.{Meaning}
use Rattle.nop_types.specs.declared.checkpoint.Answered.{Answered}
use Rattle.nop_types.specs.Tables.{Account}
use Rattle.nop_types.specs.Execution.{Executed}

-- the host's state as bytes, and each client with what is kept for it, clients ascending
pub record Checkpoint : Type 0 where
  pub host : List ℕ
  pub clients : List (ℕ × Account)

abbrev pub checkpoint_of : {S : Type 0} → Meaning S → Executed S → Checkpoint
checkpoint_of m x = record { host = m.saved x.host; clients = finite.entries x.table }

-- nothing where the bytes are no saved state
abbrev pub loaded_of : {S : Type 0} → Meaning S → Checkpoint → Option (Executed S)
loaded_of m c = option_map (λ host. record { host = host; table = finite.from_entries c.clients }) (m.loaded c.host)

-- ---- as a value in memory

abbrev pub saved_account : SavedClient → ℕ × Account
saved_account c = (c.client, record { greatest = c.greatest; kept = c.kept.items })

-- the ids ascend from this one on, and the greatest one is the last
abbrev pub runs_to : ℕ → ℕ → List Answered → Bool
runs_to greatest least [] = least == greatest + 1
runs_to greatest least (a ∷ kept) = nat_le least a.id && runs_to greatest (a.id + 1) kept

-- the least id that is less than a window behind
abbrev pub least_kept : ℕ → ℕ
least_kept greatest = greatest + 1 - WINDOW

-- ids ascend, each less than a window behind the greatest one, which is the last
abbrev pub is_kept : Account → Bool
is_kept a = runs_to a.greatest (least_kept a.greatest) a.kept

-- ids are from 1, and results short
abbrev pub is_answer : Answered → Bool
is_answer a = nat_le 1 a.id && nat_le (length a.result) MAX_RESULT_BYTES

abbrev pub are_answers : List Answered → Bool
are_answers kept = list_all is_answer kept

abbrev pub is_account : Account → Bool
is_account a = is_kept a && are_answers a.kept

-- the clients ascend from this one on, each with the results that may be kept
abbrev pub are_saved : ℕ → List (ℕ × Account) → Bool
are_saved least [] = true
are_saved least (e ∷ es) = nat_le least e.0 && (is_account e.1 && are_saved (e.0 + 1) es)

abbrev pub is_checkpoint : Checkpoint → Bool
is_checkpoint c = nat_le (length c.host) MAX_HOST_BYTES && (nat_le (length c.clients) MAX_SERVED && are_saved 0 c.clients)

-- a client's number and its greatest id are in their ranges
pub record IsSavedAccount (e : ℕ × Account) : Type 0 where
  pub client : e.0 < 2 ^ 32
  pub greatest : e.1.greatest < 2 ^ 64

-- within the limits, and each client is as it is saved
pub record CheckpointFits (c : Checkpoint) : Type 0 where
  pub limits : IsTrue (is_checkpoint c)
  pub clients : AllByRecursion IsSavedAccount c.clients

-- ---- hosts

-- what a host keeps to: in the states that ops lead to, answers and saved states are short, and what is saved loads again; and
-- nothing loads but what was saved
pub record KeepsTo {S : Type 0} (m : Meaning S) (IsSound : S → Type 0) : Type 0 where
  pub opens : IsSound m.opening
  pub stays : (s : S) (op : List ℕ) → IsSound s → IsSound (m.after s op)
  pub short : (s : S) (op : List ℕ) → IsSound s → length (m.answer s op) ≤ MAX_RESULT_BYTES
  pub fits : (s : S) → IsSound s → length (m.saved s) ≤ MAX_HOST_BYTES
  pub again : (s : S) → IsSound s → m.loaded (m.saved s) ≡ Some s
  pub only : (bytes : List ℕ) (s : S) → m.loaded bytes ≡ Some s → IsSound s × (m.saved s ≡ bytes)
