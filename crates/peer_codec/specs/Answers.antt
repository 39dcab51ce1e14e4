-- What a reader answers, against what reading gives.
use Rattle.std.specs.Prelude.{◌≡◌, Result, Ok, Err, ⊤}
use Rattle.peer_codec.specs.declared.bad_peer.BadPeer.{BadPeer}
use Rattle.peer_codec.specs.declared.bad_peer.BadPeer.TheVariants.{NoMemory}

-- reading fails with this error; being out of memory says nothing of it
abbrev pub Fails : {A : Type 0} → BadPeer → Result A BadPeer → Type 0
Fails NoMemory read = ⊤
Fails e read = read ≡ Err e

-- what was returned, seen by view, is what reading gives, unless memory ran out
abbrev pub GivesBy : {A B : Type 0} → (A → B) → Result A BadPeer → Result B BadPeer → Type 0
GivesBy view (Ok x) read = read ≡ Ok (view x)
GivesBy view (Err e) read = Fails e read

-- what was returned, as it is, is what reading gives, unless memory ran out
abbrev pub Gives : {A : Type 0} → Result A BadPeer → Result A BadPeer → Type 0
Gives result read = GivesBy (λ x. x) result read
