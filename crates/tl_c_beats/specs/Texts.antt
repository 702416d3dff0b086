-- The texts of the statuses (this project's choice).
use Rattle.std.specs.Prelude.{◌==◌, ◌++◌, ◌-◌, ℕ, List, [], ◌∷◌, codes, length, replicate, slice_index_or, nat_lt, if◌then◌else◌}
use Rattle.tl_msg.specs.declared.fault.BeatFault.TheVariants.{Opcode, Param, Size, Unaligned, Mask, Corrupt, HeadChanged}
use Rattle.tl_msg.specs.declared.fault.SideFault.TheVariants.{Beat, SourceBusy, NoRequest, SizeMismatch}
use Rattle.tl_msg.specs.Names.{side_fault_name}
use Rattle.tl_ring.specs.declared.fault.BuildFault.TheVariants.{RingSize, OutOfMemory}
use Rattle.tl_ring.specs.declared.fault.EndFault.TheVariants.{MidBurst}
use Rattle.tl_ring.specs.Names.{build_fault_name, end_fault_name}
use Rattle.tl_c_beats.specs.declared.texts.StatusText.{StatusText}
use Rattle.tl_c_beats.specs.declared.texts.TheConstants.{NAME_BYTES, SENTENCE_BYTES}

-- a text by its number from 0 on, or one of the six statuses that only the library has
abbrev by_number : (first : List (List ℕ)) (not_taken wrong_receipt bridge_mismatch not_open not_sent not_ready : List ℕ) → ℕ → List ℕ
by_number first not_taken wrong_receipt bridge_mismatch not_open not_sent not_ready n =
    if nat_lt n 24
    then slice_index_or first n []
    else (if n == 249 then not_taken else (if n == 250 then wrong_receipt else (if n == 251 then bridge_mismatch else
    (if n == 252 then not_open else (if n == 253 then not_sent else (if n == 254 then not_ready else []))))))

-- the texts of 0 to 23: of success, and of each fault by its number
abbrev pub first_names : List (List ℕ)
first_names =
    codes "Ok"
    ∷ side_fault_name (Beat Opcode)
    ∷ side_fault_name (Beat Param)
    ∷ side_fault_name (Beat Size)
    ∷ side_fault_name (Beat Unaligned)
    ∷ side_fault_name (Beat Mask)
    ∷ side_fault_name (Beat Corrupt)
    ∷ side_fault_name (Beat HeadChanged)
    ∷ side_fault_name SourceBusy
    ∷ side_fault_name NoRequest
    ∷ side_fault_name SizeMismatch
    ∷ end_fault_name MidBurst
    ∷ build_fault_name RingSize
    ∷ build_fault_name OutOfMemory
    ∷ codes "Header"
    ∷ codes "Channel"
    ∷ codes "Length"
    ∷ codes "Shape"
    ∷ codes "Range"
    ∷ codes "NoEnd"
    ∷ codes "Stalled"
    ∷ codes "Read"
    ∷ codes "Write"
    ∷ codes "TooLong"
    ∷ []

abbrev pub status_name : ℕ → List ℕ
status_name = by_number first_names (codes "NotTaken") (codes "WrongReceipt") (codes "BridgeMismatch") (codes "NotOpen") (codes "NotSent") (codes "NotReady")

abbrev pub first_sentences : List (List ℕ)
first_sentences =
    codes "it is done"
    ∷ codes "the channel has no message with this opcode"
    ∷ codes "the message has no such param"
    ∷ codes "the size is above 12: a message has at most 2^12 = 4096 bytes"
    ∷ codes "the address is not a multiple of the message's size in bytes"
    ∷ codes "the mask does not match the active lanes (PutPartialData: the mask sets lanes that are not active)"
    ∷ codes "corrupt is set on a message that carries no data"
    ∷ codes "inside a burst, a beat does not repeat the head of the burst's first beat"
    ∷ codes "the source's last request still waits for its response"
    ∷ codes "no request of this source waits for a response"
    ∷ codes "the size of the response is not that of its request"
    ∷ codes "the channel cannot be closed within a burst"
    ∷ codes "a ring holds 1 to 4096 beats"
    ∷ codes "memory ran out"
    ∷ codes "line 1 must be 'tilelink-trace V client C manager M': V is 1 or 2, C and M are bus widths in bytes (1 to 64; 128 in version 2 only)"
    ∷ codes "the line is empty, or does not begin with a channel's letter, A to E"
    ∷ codes "the line has the wrong length for its channel, trace version and bus width"
    ∷ codes "a space or a lower-case hexadecimal digit is missing at its position"
    ∷ codes "a field has a value that it cannot have, for example opcode 8"
    ∷ codes "the last line does not end with a newline (LF)"
    ∷ codes "the two sides stopped moving beats; it is proved that no run does"
    ∷ codes "the trace could not be read"
    ∷ codes "standard output could not be written"
    ∷ codes "the trace has more than 67108864 bytes (64 MiB)"
    ∷ []

abbrev pub status_sentence : ℕ → List ℕ
status_sentence =
    by_number first_sentences (codes "not all beats that the receipt counts were taken yet")
    (codes "this is no receipt that the other side gave since the bridge was opened")
    (codes "the two numbers of the bridge differ")
    (codes "the handle holds no side of a bridge")
    (codes "a channel that the side sends is open, or far beats are staged")
    (codes "the channel takes no beat now: far beats are staged, or it is closed")

-- a text as C stores it: followed by zeros, `size` bytes in all
abbrev pub zero_ended : (size : ℕ) → List ℕ → List ℕ
zero_ended size text = text ++ replicate (size - length text) 0

abbrev pub status_text : ℕ → StatusText
status_text n = record { name = zero_ended NAME_BYTES (status_name n); sentence = zero_ended SENTENCE_BYTES (status_sentence n) }
