use Rattle.started_views.proofs.Fixing.{sync_fixes, accept_fixes}
use Rattle.started_views.proofs.theorems.prefixes_are_fixed.Goals as goal

pub returns-clause-sync : goal.returns-clause-sync
returns-clause-sync c = sync_fixes

pub returns-clause-accept : goal.returns-clause-accept
returns-clause-accept c = accept_fixes
