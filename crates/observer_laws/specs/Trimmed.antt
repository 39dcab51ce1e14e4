-- What becomes of an observer where logs are trimmed.
use Rattle.std.specs.Prelude.{◌≡◌, ◌≤◌, ℕ, length, None, IfSome}
use Rattle.std.specs.Option.{option_map}
use Rattle.nop_types.specs.Logs.{Log, IsWithin}
use Rattle.nop_types.specs.Meaning.{Meaning}
use Rattle.nop_types.specs.declared.peer.Body.{Body}
use Rattle.nop_types.specs.declared.peer.Body.TheVariants as bodies
use Rattle.trimming.specs.Trimming.{trim}
use Rattle.observer.specs.Observing.{Candidate, Observing, position}

-- a log that is kept whole
pub record IsPlain (l : Log) : Type 0 where
  pub within : IsWithin l
  pub whole : l.checkpoint ≡ None

-- its sync point is not past the position
pub record CandidateFits (at : ℕ) (c : Candidate) : Type 0 where
  pub plain : IsPlain c.log
  pub low : c.log.sync_point ≤ at

-- what is executed ends with the position
pub record ObservingFits (s : Observing) : Type 0 where
  pub ends : length s.known.entries ≡ position s
  pub candidate : IfSome s.candidate (λ c. CandidateFits (position s) c)

-- the log of a SyncPrepare is whole
abbrev pub TellsPlain : Body → Type 0
TellsPlain (bodies.SyncPrepare l) = IsPlain l
TellsPlain body = Unit {0}

module _ {S : Type 0} (m : Meaning S) where
  abbrev pub trimmed_candidate : Candidate → Candidate
  trimmed_candidate c = record c { log = trim m c.log }

  abbrev pub trimmed_observing : Observing → Observing
  trimmed_observing s = record { known = trim m s.known; candidate = option_map trimmed_candidate s.candidate }
