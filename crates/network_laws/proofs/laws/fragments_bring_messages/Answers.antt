use Rattle.network_laws.proofs.Fragments.{fragment_brings}
use Rattle.network_laws.proofs.laws.fragments_bring_messages.Goals as goal

pub returns : goal.returns
returns g c = λ m. fragment_brings m
