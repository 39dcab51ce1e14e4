-- The step table of an observer: what leaders tell comes in fragments, and each read is answered at once.
use Rattle.std.specs.Prelude.{ℕ, List, [], ◌∷◌, Result, Ok}
use Rattle.nop_types.specs.Configuration.{Configuration}
use Rattle.nop_types.specs.Given.{Given, Packet}
use Rattle.nop_types.specs.Logs.{Trimmed}
use Rattle.nop_types.specs.Meaning.{Meaning}
use Rattle.nop_types.specs.Services.{get_of}
use Rattle.nop_types.specs.declared.datagram.Answer.{Answer}
use Rattle.nop_types.specs.declared.datagram.Datagram.{Datagram}
use Rattle.nop_types.specs.declared.datagram.Datagram.TheVariants as datagrams
use Rattle.nop_types.specs.declared.datagram.Read.{Read}
use Rattle.nop_types.specs.declared.output.Actor.TheVariants as actors
use Rattle.nop_types.specs.declared.output.Dest.TheVariants.{One}
use Rattle.nop_types.specs.declared.output.Out.{Out}
use Rattle.nop_types.specs.declared.output.Out.TheVariants.{Send}
use Rattle.oum_codec.specs.declared.bad.Bad.{Bad}
use Rattle.oum_codec.specs.Reading.{reading}
use Rattle.oum_codec.specs.Spelling.{spelling}
use Rattle.observer.specs.Hearing as hearing
use Rattle.observer.specs.Hearing.{Hearing, fragment}
use Rattle.observer.specs.Observing.{position, answer}

pub record Observer : Type 0 where
  pub config : Configuration
  pub number : ℕ
  pub heard : Hearing

abbrev pub opening : Configuration → ℕ → Observer
opening config number = record { config = config; number = number; heard = hearing.opening config.replicas }

module _ {S : Type 0} (m : Meaning S) where
  -- what the service answers to a read of a key, at the position
  abbrev pub answer_of : Observer → List ℕ → List ℕ
  answer_of s key = answer m Trimmed s.heard.state (get_of key)

  abbrev pub answer_to : Observer → Read → Answer
  answer_to s r = record {
    observer = s.number;
    position = position s.heard.state;
    client = r.client;
    id = r.id;
    result = answer_of s r.key;
  }

  -- to the client that asks, whether or not there is one of its number
  abbrev pub answered : Observer → Read → Out
  answered s r = Send (One (actors.Client r.client)) (spelling (datagrams.Answer (answer_to s r)))

  abbrev pub on_datagram : Observer → Result Datagram Bad → Observer × List Out
  on_datagram s (Ok (datagrams.Fragment f)) = (record s { heard = fragment m s.config.replicas s.heard f }, [])
  on_datagram s (Ok (datagrams.Read r)) = (s, answered s r ∷ [])
  on_datagram s _ = (s, [])

  unfoldable pub next : Observer → Given → Observer × List Out
  next s (Packet bytes) = on_datagram s (reading bytes)
  next s _ = (s, [])

  -- after some inputs
  abbrev pub after : Observer → List Given → Observer
  after s [] = s
  after s (x ∷ xs) = after (next s x).0 xs
