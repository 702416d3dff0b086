-- The record and the decision for the first beat of a message. Only contracts of private functions use these
-- definitions.
use Rattle.std.specs.Prelude.{◌++◌, Bool, Option, None, List, [], ◌∷◌, if◌then◌else◌}
use Rattle.tl_msg.specs.declared.fault.SideFault.{SideFault}
use Rattle.tl_msg.specs.declared.head.HeadD.{HeadD}
use Rattle.tl_settle.specs.Histories.{Mark, open_request, to_request}
use Rattle.tl_settle.specs.Requests.{is_release_ack}

-- the reason why a response is refused, given the outstanding requests; None if it is accepted
abbrev pub stops_response : List Mark → HeadD → Option SideFault
stops_response ms h = if is_release_ack h then None else to_request (open_request h.source ms) h

-- the messages that have begun, with one more if a beat is the first of its message
abbrev pub begun_with : (first : Bool) → Mark → List Mark → List Mark
begun_with first m ms = if first then ms ++ m ∷ [] else ms
