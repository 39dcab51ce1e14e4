use Rattle.desk.proofs.Clients.{ran}
use Rattle.desk.proofs.laws.cores_are_clients.Goals as goal

pub returns : goal.returns
returns c = λ config first count es i s at. ran config first count es i s at
