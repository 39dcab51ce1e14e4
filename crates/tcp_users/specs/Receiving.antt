-- What a connection received.
use Rattle.std.specs.Prelude.{ℕ, ◌≤◌, ⊤}
use Rattle.tcp_users.specs.declared.connection.Received.{Received}
use Rattle.tcp_users.specs.declared.connection.Received.TheVariants.{Bytes}

-- no more bytes than this were received
abbrev pub ReceivesWithin : Received → ℕ → Type 0
ReceivesWithin (Bytes count) most = count ≤ most
ReceivesWithin _ most = ⊤
