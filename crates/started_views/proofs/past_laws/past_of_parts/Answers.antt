use Rattle.started_views.proofs.Parts.{past_of_parts, in_parts_entering, in_parts_staying, same_past}
use Rattle.started_views.proofs.past_laws.past_of_parts.Goals as goal

pub returns-clause-whole : goal.returns-clause-whole
returns-clause-whole c f r past old middle new h = past_of_parts f past r old middle new h

pub returns-clause-entering : goal.returns-clause-entering
returns-clause-entering c f r past old middle new a b l d e = in_parts_entering f past r old middle new a b l d e

pub returns-clause-staying : goal.returns-clause-staying
returns-clause-staying c f r past old middle new a b d = in_parts_staying f past r old middle new a b d

pub returns-clause-one : goal.returns-clause-one
returns-clause-one c = same_past
