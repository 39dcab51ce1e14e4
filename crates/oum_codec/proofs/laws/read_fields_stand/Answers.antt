use Rattle.oum_codec.proofs.Places.{u16_stands, u32_stands, u64_stands, view_stands, request_stands}
use Rattle.oum_codec.proofs.laws.read_fields_stand.Goals as goal

pub returns-clause-two : goal.returns-clause-two
returns-clause-two c = u16_stands

pub returns-clause-four : goal.returns-clause-four
returns-clause-four c = u32_stands

pub returns-clause-eight : goal.returns-clause-eight
returns-clause-eight c = u64_stands

pub returns-clause-view : goal.returns-clause-view
returns-clause-view c = view_stands

pub returns-clause-request : goal.returns-clause-request
returns-clause-request c = request_stands
