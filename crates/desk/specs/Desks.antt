-- What a desk keeps, and its step table.
use Rattle.std.specs.Prelude.{ℕ, zero, suc, ◌+◌, ◌-◌, ◌^◌, length, Bool, true, false, nat_lt, ◌&&◌, List, [], ◌∷◌, ◌++◌, map, filter, min, not, Option, Some, None, slice_get, slice_set, ◌==◌}
use Rattle.std.specs.List.{position}
use Rattle.nop_types.specs.Configuration.{Configuration}
use Rattle.nop_types.specs.Given.{Given}
use Rattle.client_quorum.specs.ClientSteps.{can_submit}
use Rattle.desk.specs.Submitters as submitters
use Rattle.desk.specs.Submitters.{core_left, submits, submit_tells, takes, tells}
use Rattle.desk.specs.declared.desk_state.DeskState.{DeskState}
use Rattle.desk.specs.declared.submitter.Labelled.{Labelled}
use Rattle.desk.specs.declared.submitter.Queued.{Queued}
use Rattle.desk.specs.declared.submitter.Submitter.{Submitter}
use Rattle.desk.specs.declared.limits.TheConstants.{MAX_WAITING}

-- what a desk is told
pub data Event : Type 0 where
  -- a user asks for an op
  Take : (op : List ℕ) → Event
  -- the user of a ticket left
  Leave : (ticket : ℕ) → Event
  -- an input comes to a core
  Comes : (core : ℕ) → Given → Event

-- cores with the numbers from the first one on
abbrev pub cores_from : Configuration → (first count : ℕ) → List Submitter
cores_from config first zero = []
cores_from config first (suc n) = submitters.opening config first ∷ cores_from config (first + 1) n

abbrev pub opening : Configuration → (first count : ℕ) → DeskState
opening config first count = record { cores = cores_from config first count; queue = []; taken = 0 }

-- ---- a core, by its place

abbrev pub changed_if : Option Submitter → ℕ → List Submitter → (Submitter → Submitter) → List Submitter
changed_if None i cores f = cores
changed_if (Some s) i cores f = slice_set cores i (f s)

abbrev pub changed_at : ℕ → List Submitter → (Submitter → Submitter) → List Submitter
changed_at i cores f = changed_if (slice_get cores i) i cores f

abbrev pub told_if : Option Submitter → (Submitter → List Labelled) → List Labelled
told_if None f = []
told_if (Some s) f = f s

abbrev pub told_at : ℕ → List Submitter → (Submitter → List Labelled) → List Labelled
told_at i cores f = told_if (slice_get cores i) f

-- ---- the queue

abbrev pub first_queued : List Queued → Option Queued
first_queued [] = None
first_queued (q ∷ qs) = Some q

abbrev pub after_first : List Queued → List Queued
after_first [] = []
after_first (q ∷ qs) = qs

abbrev pub without_queued : List Queued → ℕ → List Queued
without_queued qs ticket = filter (λ q. not (q.ticket == ticket)) qs

-- ---- ops are submitted in turn, as long as one waits and a core takes it

pub record Filled : Type 0 where
  pub cores : List Submitter
  pub queue : List Queued
  pub told : List Labelled

-- the fewest tickets that a core holds which takes an op, of these cores and one before them
abbrev pub least : Option ℕ → ℕ → ℕ
least None n = n
least (Some m) n = min m n

abbrev pub fewest_if : Bool → Option ℕ → ℕ → Option ℕ
fewest_if true before n = Some (least before n)
fewest_if false before n = before

abbrev pub fewest_from : Option ℕ → List Submitter → Option ℕ
fewest_from before [] = before
fewest_from before (s ∷ cores) = fewest_from (fewest_if (can_submit s.client.state.requests) before (length s.held)) cores

-- it takes an op, and holds so many tickets
abbrev pub is_free_with : ℕ → Submitter → Bool
is_free_with n s = can_submit s.client.state.requests && (length s.held == n)

abbrev pub first_with : Option ℕ → List Submitter → Option ℕ
first_with None cores = None
first_with (Some n) cores = position (is_free_with n) cores

-- of the cores that take an op, the first of those that hold the fewest tickets
abbrev pub freest : List Submitter → Option ℕ
freest cores = first_with (fewest_from None cores) cores

abbrev pub fill_if : Option ℕ → Filled → (ℕ → Filled) → Filled
fill_if None none some = none
fill_if (Some i) none some = some i

abbrev pub with_told : List Labelled → Filled → Filled
with_told told f = record f { told = told ++ f.told }

abbrev pub fill : List Submitter → List Queued → Filled
fill cores [] = record { cores = cores; queue = []; told = [] }
fill cores (q ∷ qs) = fill_if (freest cores) (record { cores = cores; queue = q ∷ qs; told = [] })
    (λ i. with_told (told_at i cores (λ s. submit_tells i s q)) (fill (changed_at i cores (λ s. submits s q)) qs))

abbrev pub filled_with : DeskState → Filled → DeskState × List Labelled
filled_with d f = (record d { cores = f.cores; queue = f.queue }, f.told)

abbrev pub filled : DeskState → DeskState × List Labelled
filled d = filled_with d (fill d.cores d.queue)

-- ---- all rows

abbrev pub queued : DeskState → List ℕ → DeskState
queued d op = record d { queue = d.queue ++ record { ticket = d.taken; op = op } ∷ []; taken = d.taken + 1 }

abbrev pub left : DeskState → ℕ → DeskState
left d ticket = record d {
  cores = map (core_left ticket) d.cores;
  queue = without_queued d.queue ticket;
}

abbrev pub came : DeskState → ℕ → Given → DeskState
came d i x = record d { cores = changed_at i d.cores (λ s. takes s x) }

abbrev pub next : DeskState → Event → DeskState × List Labelled
next d (Take op) = filled (queued d op)
next d (Leave ticket) = (left d ticket, [])
next d (Comes i x) = ((filled (came d i x)).0, told_at i d.cores (λ s. tells i s x) ++ (filled (came d i x)).1)

-- one more op may wait, and a ticket is left
abbrev pub has_room : DeskState → Bool
has_room d = nat_lt (length d.queue) MAX_WAITING && nat_lt d.taken (2 ^ 64 - 1)
