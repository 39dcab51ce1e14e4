-- What is claimed of the protocol's runs.
use Rattle.std.specs.Prelude.{◌≡◌, ◌≤◌, ◌<◌, ℕ, ◌+◌, ◌*◌, List, false, take}
use Rattle.nop_types.specs.declared.limits.TheConstants.{WINDOW}
use Rattle.nop_types.specs.Configuration.{Configuration}
use Rattle.nop_types.specs.declared.output.Accept.{Accept as Acceptance}
use Rattle.nop_types.specs.declared.view.View.{View}
use Rattle.nop_types.specs.declared.request.Entry.{Entry}
use Rattle.nop_types.specs.declared.request.Request.{Request}
use Rattle.nop_types.specs.Execution.{ids_of}
use Rattle.nop_types.specs.Histories.{history_of}
use Rattle.nop_types.specs.Legality.{Legal}
use Rattle.nop_types.specs.Lists.{Has, IsPrefixOf, slot_of}
use Rattle.nop_types.specs.Meaning.{Meaning}
use Rattle.nop_types.specs.Windows.{is_stale}
use Rattle.client_quorum.specs.OpenRequests.{IsOpen}
use Rattle.client_quorum.specs.declared.state.ClientState.{ClientState}
use Rattle.execution_laws.specs.Legality.{StandsFrom}
use Rattle.started_views.specs.Settled.{MainLog}
use Rattle.protocol.specs.Conf.{Conf, opening, last_normals}
use Rattle.protocol.specs.Invariant.{Inv}
use Rattle.protocol.specs.Runs.{Move, run, MayAll}
use Rattle.protocol_sync.specs.Sound.{Sound, GoesOn}
use Rattle.protocol_sync.specs.Synced.{Sync, SyncRises}

-- a is the log from which the history is read, that of the leader of v
abbrev pub IsMainLog : ℕ → Conf → View → List Entry → Type 0
IsMainLog f c v a = MainLog f (last_normals c) c.past v a

-- of 2 f + 1 replicas
abbrev pub OpeningIsSynced : Type 0
OpeningIsSynced = (f : ℕ) (config : Configuration) → config.replicas ≡ 2 * f + 1 → Sync f (opening config)

-- whatever moves are made, each where it may be made
abbrev pub SyncsKeep : {S : Type 0} → Meaning S → Type 0
SyncsKeep m = (f : ℕ) (c : Conf) (xs : List Move) → Inv m f c → Sync f c → MayAll m f c xs → Sync f (run m f c xs)

-- no sync point falls
abbrev pub SyncPointsNeverFall : {S : Type 0} → Meaning S → Type 0
SyncPointsNeverFall m = (f : ℕ) (c : Conf) (xs : List Move) → Inv m f c → Sync f c → MayAll m f c xs → SyncRises f c (run m f c xs)

-- what a replica has up to its sync point begins the log from which the history is read
abbrev pub SynchronisedBegin : {S : Type 0} → Meaning S → Type 0
SynchronisedBegin m = (f : ℕ) (c : Conf) → Inv m f c → Sync f c → (r : ℕ) → r < 2 * f + 1
    → (v : View) (a : List Entry) → IsMainLog f c v a → IsPrefixOf (take (c.replicas r).sync.sync_point (c.replicas r).log) a

-- any two replicas have the same entry in each slot up to both sync points
abbrev pub SynchronisedAgree : {S : Type 0} → Meaning S → Type 0
SynchronisedAgree m = (f : ℕ) (c : Conf) → Inv m f c → Sync f c → (q r k : ℕ) → q < 2 * f + 1 → r < 2 * f + 1
    → k ≤ (c.replicas q).sync.sync_point → k ≤ (c.replicas r).sync.sync_point → slot_of (c.replicas q).log k ≡ slot_of (c.replicas r).log k

-- the lines are legal of the history
abbrev pub LinesAreLegal : {S : Type 0} → Meaning S → Type 0
LinesAreLegal m = (f : ℕ) (c : Conf) → Inv m f c → (v : View) (a : List Entry) → IsMainLog f c v a → Legal m c.lines (history_of a)

-- what a client keeps as accepted stands in the log from its slot on
abbrev pub AcceptedStand : {S : Type 0} → Meaning S → Conf → List Entry → Type 0
AcceptedStand m c log = (k : ℕ) (a : Acceptance) → Has (c.clients k).recent a → StandsFrom m log k a.id a.slot a.result

abbrev pub AcceptedStandFromTheirSlots : {S : Type 0} → Meaning S → Type 0
AcceptedStandFromTheirSlots m = (f : ℕ) (c : Conf) → Inv m f c → (v : View) (a : List Entry) → IsMainLog f c v a → AcceptedStand m c a

-- none of a client's open requests is stale in a log: no id that the client has there is a window ahead of one
abbrev pub OpenIsNotStaleIn : List Entry → (client : ℕ) → ClientState → Type 0
OpenIsNotStaleIn log client s = (q : Request) → IsOpen s q → is_stale WINDOW (ids_of client log) q.id ≡ false

-- of no client, in no replica's log
abbrev pub OpenIsNotStale : ℕ → Conf → Type 0
OpenIsNotStale f c = (r k : ℕ) → r < 2 * f + 1 → OpenIsNotStaleIn (c.replicas r).log k (c.clients k)

abbrev pub OpenIsNeverStale : {S : Type 0} → Meaning S → Type 0
OpenIsNeverStale m = (f : ℕ) (c : Conf) → Inv m f c → OpenIsNotStale f c

-- ---- of each configuration that moves lead to from the opening

-- what two replicas have up to both sync points is the same; it begins the log from which the history is read, the lines are legal of
-- that history, what a client keeps as accepted stands there from its slot on, and what it has open is stale in no replica's log
pub record Safe {S : Type 0} (m : Meaning S) (f : ℕ) (c : Conf) : Type 0 where
  pub view : View
  pub log : List Entry
  pub main : IsMainLog f c view log
  pub agreed : (q r k : ℕ) → q < 2 * f + 1 → r < 2 * f + 1
      → k ≤ (c.replicas q).sync.sync_point → k ≤ (c.replicas r).sync.sync_point
      → slot_of (c.replicas q).log k ≡ slot_of (c.replicas r).log k
  pub begins : (r : ℕ) → r < 2 * f + 1 → IsPrefixOf (take (c.replicas r).sync.sync_point (c.replicas r).log) log
  pub legal : Legal m c.lines (history_of log)
  pub accepted : AcceptedStand m c log
  pub not_stale : OpenIsNotStale f c

-- whatever moves are made, each where it may be made
abbrev pub RunsAreSafe : {S : Type 0} → Meaning S → Type 0
RunsAreSafe m = (f : ℕ) (config : Configuration) (xs : List Move) → config.replicas ≡ 2 * f + 1
    → MayAll m f (opening config) xs → Safe m f (run m f (opening config) xs)

-- all that was stamped, said, logged, replied and accepted in a run is sound
abbrev pub RunsAreSound : {S : Type 0} → Meaning S → Type 0
RunsAreSound m = (f : ℕ) (config : Configuration) (xs : List Move) → config.replicas ≡ 2 * f + 1
    → MayAll m f (opening config) xs → Sound m f (run m f (opening config) xs)

-- what a run has reached, no later move takes back
abbrev pub RunsGoOn : {S : Type 0} → Meaning S → Type 0
RunsGoOn m = (f : ℕ) (config : Configuration) (xs ys : List Move) → config.replicas ≡ 2 * f + 1
    → MayAll m f (opening config) xs → MayAll m f (run m f (opening config) xs) ys
    → GoesOn f (run m f (opening config) xs) (run m f (run m f (opening config) xs) ys)
