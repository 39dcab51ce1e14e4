use Rattle.oum_codec.proofs.Places.{u16_found, u32_found, u64_found, view_found, request_found}
use Rattle.oum_codec.proofs.laws.fields_are_read.Goals as goal

pub returns-clause-two : goal.returns-clause-two
returns-clause-two c = u16_found

pub returns-clause-four : goal.returns-clause-four
returns-clause-four c = u32_found

pub returns-clause-eight : goal.returns-clause-eight
returns-clause-eight c = u64_found

pub returns-clause-view : goal.returns-clause-view
returns-clause-view c = view_found

pub returns-clause-request : goal.returns-clause-request
returns-clause-request c = request_found
