use Rattle.started_views.proofs.Keeping.{start_synchronised, certificate_synchronised, leader_synchronised, anchored_later}
use Rattle.started_views.proofs.theorems.synchronised_prefixes_are_kept.Goals as goal

pub returns-clause-starts : goal.returns-clause-starts
returns-clause-starts c f stamps last_normal past h = start_synchronised f stamps last_normal past h

pub returns-clause-certificates : goal.returns-clause-certificates
returns-clause-certificates c f stamps last_normal past h = certificate_synchronised f stamps last_normal past h

pub returns-clause-leaders : goal.returns-clause-leaders
returns-clause-leaders c f stamps last_normal past h = leader_synchronised f stamps last_normal past h

pub returns-clause-later : goal.returns-clause-later
returns-clause-later c = anchored_later
