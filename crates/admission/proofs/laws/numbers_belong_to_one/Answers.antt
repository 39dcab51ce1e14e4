use Rattle.admission.proofs.Noting.{told_keep, told_once, noted_once}
use Rattle.admission.proofs.laws.numbers_belong_to_one.Goals as goal

pub returns-clause-kept : goal.returns-clause-kept
returns-clause-kept c = told_keep

pub returns-clause-one : goal.returns-clause-one
returns-clause-one c = told_once

pub returns-clause-once : goal.returns-clause-once
returns-clause-once c = noted_once
