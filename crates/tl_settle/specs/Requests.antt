-- The request to which a response belongs, by the SiFive TileLink Specification 1.8: source and size of responses.
use Rattle.std.specs.Prelude.{◌==◌, ◌&&◌, ◌++◌, ℕ, Bool, Option, List, [], ◌∷◌, not, cond, slice_get}
use Rattle.std.specs.Option.{option_map_or}
use Rattle.std.specs.List.{count_by, filter}
use Rattle.tl_msg.specs.declared.head.HeadA.{HeadA}
use Rattle.tl_msg.specs.declared.head.HeadD.{HeadD}

-- a request of source s
abbrev pub is_request_of : (s : ℕ) → HeadA → Bool
is_request_of s h = h.source == s

-- ReleaseAck responds to a message of channel C and not to a request
abbrev pub is_release_ack : HeadD → Bool
is_release_ack h = h.opcode == 6

-- a response to a request of source s
abbrev pub is_response_to : (s : ℕ) → HeadD → Bool
is_response_to s h = not (is_release_ack h) && (h.source == s)

-- the number of requests of source s, and of responses to it, among messages that have begun
abbrev pub requests_of : (s : ℕ) → List HeadA → ℕ
requests_of s hs = count_by (is_request_of s) hs

abbrev pub responses_to : (s : ℕ) → List HeadD → ℕ
responses_to s hs = count_by (is_response_to s) hs

-- the request of the next response to s, after the responses before it: requests and responses of a source are matched
-- in order
abbrev pub partner : (requests : List HeadA) → (before : List HeadD) → (s : ℕ) → Option HeadA
partner requests before s = slice_get (filter (is_request_of s) requests) (responses_to s before)

-- the home of a message on D: the address of its request, and 0 for ReleaseAck
abbrev pub home_of : (requests : List HeadA) → (before : List HeadD) → HeadD → ℕ
home_of requests before h = cond (is_release_ack h) 0 (option_map_or (λ q. q.address) (partner requests before h.source) 0)

-- the homes of messages on D, one after the other
abbrev pub homes_after : (requests : List HeadA) → (before : List HeadD) → List HeadD → List ℕ
homes_after requests before [] = []
homes_after requests before (h ∷ hs) = home_of requests before h ∷ homes_after requests (before ++ h ∷ []) hs
