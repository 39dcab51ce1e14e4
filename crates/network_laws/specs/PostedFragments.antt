-- The fragments among what a replica posts.
use Rattle.std.specs.Prelude.{◌≡◌, ℕ, ◌+◌, List, [], ◌∷◌, ◌++◌, map, Result, Ok}
use Rattle.std.specs.List.{range_with_len}
use Rattle.nop_types.specs.declared.datagram.Fragment.{Fragment}
use Rattle.nop_types.specs.declared.datagram.Datagram.{Datagram}
use Rattle.nop_types.specs.declared.datagram.Datagram.TheVariants as datagrams
use Rattle.nop_types.specs.declared.output.Out.{Out}
use Rattle.nop_types.specs.declared.output.Out.TheVariants as outs
use Rattle.oum_codec.specs.declared.bad.Bad.{Bad}
use Rattle.oum_codec.specs.Reading.{reading}
use Rattle.peer_codec.specs.Spelling.{spelling}
use Rattle.fragments.specs.Cutting.{fragments_of}
use Rattle.fragments.specs.Runs.{Sent}
use Rattle.replica_state.specs.declared.sending.Sending.{Sending}
use Rattle.replica_state.specs.declared.sending.Sending.TheVariants.{ToClient, ToReplicas, Trims}
use Rattle.replica_state.specs.Sends.{message_count}
use Rattle.replica_core.specs.Posting.{posted}

-- ---- the fragments among datagrams

abbrev pub fragment_read : Result Datagram Bad → List Fragment
fragment_read (Ok (datagrams.Fragment f)) = f ∷ []
fragment_read _ = []

abbrev pub fragment_in : Out → List Fragment
fragment_in (outs.Send dest bytes) = fragment_read (reading bytes)
fragment_in _ = []

abbrev pub fragments_in : List Out → List Fragment
fragments_in [] = []
fragments_in (o ∷ os) = fragment_in o ++ fragments_in os

-- ---- the messages of which they are fragments

-- the messages among what is sent, each under the number after the one before it
abbrev pub messages_from : ℕ → List Sending → List Sent
messages_from number [] = []
messages_from number (ToClient r ∷ sends) = messages_from number sends
messages_from number (Trims first entries ∷ sends) = messages_from number sends
messages_from number (ToReplicas dest p ∷ sends) =
    record { sender = p.sender; number = number + 1; bytes = spelling p } ∷ messages_from (number + 1) sends

abbrev pub fragments_of_all : List Sent → List Fragment
fragments_of_all [] = []
fragments_of_all (x ∷ xs) = fragments_of x.sender x.number x.bytes ++ fragments_of_all xs

-- what is posted are exactly the fragments of these messages, and they have the numbers above the one that was used last
pub record PostsFragments (number : ℕ) (sends : List Sending) : Type 0 where
  pub fragments : fragments_in (posted number sends) ≡ fragments_of_all (messages_from number sends)
  pub numbers : map (λ x. x.number) (messages_from number sends) ≡ range_with_len (number + 1) (message_count sends)
