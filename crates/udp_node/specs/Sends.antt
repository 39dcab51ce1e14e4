-- What a link took of the calls that were to be made on it.
use Rattle.std.specs.Prelude.{◌≡◌, ℕ, ◌+◌, ◌-◌, ◌^◌, min, List, [], ◌∷◌, ◌++◌, Option, Some, None, Result, Ok, Err, ⊤}
use Rattle.nop_types.specs.declared.memory.NoMemory.{NoMemory}
use Rattle.outside.specs.Causes.{next_count}
use Rattle.outside.specs.Observed.{Stays, StaysIfObserved}
use Rattle.outside.specs.declared.errors.DeviceError.{DeviceError}
use Rattle.outside.specs.declared.errors.DeviceError.TheVariants as links
use Rattle.outside.specs.declared.link.Link as devices
use Rattle.outside.specs.declared.link.LinkCall.{LinkCall}
use Rattle.outside.specs.declared.link.LinkCall.TheVariants.{Polled, Sent}

-- the calls on the link, where they are observable; how many datagrams the node counted as lost, and how many the link
pub record LinkSide : Type 0 where
  pub trace : Option (List LinkCall)
  pub lost : ℕ
  pub losses : ℕ

abbrev pub side : Option (List LinkCall) → ℕ → ℕ → LinkSide
side trace lost losses = record { trace = trace; lost = lost; losses = losses }

abbrev pub side_of : {L : Type 0} → devices.Ghosts L → L → ℕ → LinkSide
side_of link l lost = side (link.trace l) lost (link.loss_count l)

-- no poll was made
pub record Unpolled {L : Type 0} (link : devices.Ghosts L) (old new : L) : Type 0 where
  pub answers : Stays (link.answers old) (link.answers new)
  pub faults : link.fault_count new ≡ link.fault_count old

-- observable content grows by xs
abbrev pub Grows : {A : Type 0} → Option (List A) → Option (List A) → List A → Type 0
Grows None new xs = ⊤
Grows (Some old) new xs = new ≡ Some (old ++ xs)

-- a call that was made, a datagram that could not be sent, or so many losses that the link found at a poll
pub data Try : Type 0 where
  Made : LinkCall → Try
  Lost : ℕ → List ℕ → Try
  Found : ℕ → Try

-- the calls that were tried
abbrev pub tried : List Try → List LinkCall
tried [] = []
tried (Made c ∷ ts) = c ∷ tried ts
tried (Lost port bytes ∷ ts) = Sent port bytes ∷ tried ts
tried (Found k ∷ ts) = tried ts

-- those that were made
abbrev pub made : List Try → List LinkCall
made [] = []
made (Made c ∷ ts) = c ∷ made ts
made (Lost port bytes ∷ ts) = made ts
made (Found k ∷ ts) = made ts

-- how many datagrams could not be sent
abbrev pub failures : List Try → ℕ
failures [] = 0
failures (Made c ∷ ts) = failures ts
failures (Lost port bytes ∷ ts) = 1 + failures ts
failures (Found k ∷ ts) = k + failures ts

-- how many of them the link found at polls
abbrev pub found : List Try → ℕ
found [] = 0
found (Made c ∷ ts) = found ts
found (Lost port bytes ∷ ts) = found ts
found (Found k ∷ ts) = k + found ts

abbrev pub last_count : ℕ
last_count = 2 ^ 64 - 1

-- a count of 64 bits after these tries
abbrev pub losses_after : ℕ → List Try → ℕ
losses_after n [] = n
losses_after n (Made c ∷ ts) = losses_after n ts
losses_after n (Lost port bytes ∷ ts) = losses_after (next_count n) ts
losses_after n (Found k ∷ ts) = losses_after (min (n + k) last_count) ts

-- each call was tried in order: those that did not fail were made, the others are counted by the node and by the link. A link
-- that tells its calls finds no losses at polls.
pub record Sends (cs : List LinkCall) (a b : LinkSide) : Type 0 where
  pub tries : List Try
  pub all : tried tries ≡ cs
  pub trace : Grows a.trace b.trace (made tries)
  pub lost : b.lost ≡ losses_after a.lost tries
  pub losses : b.losses ≡ losses_after a.losses tries
  pub observed : StaysIfObserved a.trace 0 (found tries)

-- only a front of them was tried
pub record SendsPrefix (cs : List LinkCall) (a b : LinkSide) : Type 0 where
  pub before : List LinkCall
  pub rest : List LinkCall
  pub split : cs ≡ before ++ rest
  pub sends : Sends before a b

abbrev pub SendsAll : {T : Type 0} → List LinkCall → Result T NoMemory → LinkSide → LinkSide → Type 0
SendsAll cs (Ok t) a b = Sends cs a b
SendsAll cs (Err e) a b = SendsPrefix cs a b

-- the link was polled, unless memory ran out
abbrev pub PollsLink : {T : Type 0} → Result T DeviceError → LinkSide → LinkSide → Type 0
PollsLink (Ok t) a b = Sends (Polled ∷ []) a b
PollsLink (Err links.Failed) a b = Sends (Polled ∷ []) a b
PollsLink (Err links.NoMemory) a b = Sends [] a b
