use Rattle.client_quorum.proofs.OpenRequests.{opening_opens_none, opening_keeps_none, opens, keeps, closes}
use Rattle.client_quorum.proofs.laws.rows_move_open_requests.Goals as goal

pub returns-clause-none : goal.returns-clause-none
returns-clause-none c = opening_opens_none

pub returns-clause-empty : goal.returns-clause-empty
returns-clause-empty c = opening_keeps_none

pub returns-clause-opens : goal.returns-clause-opens
returns-clause-opens c = opens

pub returns-clause-keeps : goal.returns-clause-keeps
returns-clause-keeps c = keeps

pub returns-clause-closes : goal.returns-clause-closes
returns-clause-closes c = closes
