-- A list that grows if a result is Ok, and otherwise stays as it was.
use Rattle.tl_answer.proofs.Names.{◌≡◌, List, Result, Ok, Err, if◌then◌else◌, OnOk}
use Rattle.std.specs.Result.{is_ok}

pub grown-ok : {E X : Type 0} (a : Result (Unit {0}) E) (list more before : List X) → list ≡ (if is_ok a then more else before) → OnOk a (list ≡ more)
grown-ok (Ok x) list more before is = is
grown-ok (Err e) list more before is = tt
