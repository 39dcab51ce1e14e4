-- What a request asks for, of the code without where it lies in memory.
use Rattle.kv_resp.specs.declared.demand.Demand.{Demand}
use Rattle.kv_resp.specs.declared.demand.Demand.TheVariants as code
use Rattle.resp.specs.Replies.{reply_bytes}
use Rattle.kv_resp.specs.Table.{Action, Execute, ReadAt, Info, Answer, End}

abbrev pub action_of : Demand → Action
action_of (code.Execute op form) = Execute op form
action_of (code.ReadAt key) = ReadAt key
action_of code.Info = Info
action_of (code.Answer reply) = Answer (reply_bytes reply)
action_of (code.End reply) = End (reply_bytes reply)
