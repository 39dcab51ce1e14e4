use Rattle.started_views.proofs.Keeping.{fixed_prefixes_are_kept, certificate_begins_start, leader_begins}
use Rattle.started_views.proofs.theorems.fixed_prefixes_are_kept.Goals as goal

pub returns-clause-starts : goal.returns-clause-starts
returns-clause-starts c = fixed_prefixes_are_kept

pub returns-clause-certificates : goal.returns-clause-certificates
returns-clause-certificates c f stamps last_normal past h = certificate_begins_start f stamps last_normal past h

pub returns-clause-leaders : goal.returns-clause-leaders
returns-clause-leaders c f stamps last_normal past h = leader_begins f stamps last_normal past h
