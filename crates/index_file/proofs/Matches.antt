-- What is said of a result by one of its cases.
use Rattle.std.proofs.Common.{◌≡◌, ap}
use Rattle.std.specs.Prelude.{Result, Ok, Err, OnOk, IfErr, IsErrOf}

pub on_ok_then : {X E : Type 0} (r : Result X E) (P Q : Type 0) → (P → Q) → OnOk r P → OnOk r Q
on_ok_then (Ok x) P Q f h = f h
on_ok_then (Err e) P Q f h = tt

pub if_err_then : {X E : Type 0} (r : Result X E) (P Q : E → Type 0) → ((e : E) → P e → Q e) → IfErr r P → IfErr r Q
if_err_then (Ok x) P Q f h = tt
if_err_then (Err e) P Q f h = f e h

-- an error is one of results of any values
err_one : {T E : Type 0} (x y : E) → IsErrOf {T = T} (Err x) y → x ≡ y
err_one x y e = cc

pub err_same : {T U E : Type 0} (x y : E) → IsErrOf {T = T} (Err x) y → IsErrOf {T = U} (Err x) y
err_same x y e = ap Err (err_one x y e)
