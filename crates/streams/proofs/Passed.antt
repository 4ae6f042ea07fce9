-- What of some bytes is written, write by write.
use Rattle.std.proofs.Common.{ℕ, ◌+◌, ◌-◌, ◌≡◌, List, [], ◌++◌, length, take, drop, Some, None, Option, sym, ap, ◌∙◌, subst}
use Rattle.std.proofs.lemmas.List.{append-nil, append_assoc, take-append-drop, take_rest}
use Rattle.std.proofs.Math.Seq.{take-add}
use Rattle.std.specs.Io.KnownBytes.{Appends, Keeps}
use Rattle.streams.specs.Streams.{Cut, Passed}

pub appends_none : (a : Option (List ℕ)) → Appends a a []
appends_none None = tt
appends_none (Some xs) = sym (append-nil xs)

pub appends_more : (a b c : Option (List ℕ)) (xs ys : List ℕ) → Appends a b xs → Appends b c ys → Appends a c (xs ++ ys)
appends_more None b c xs ys h k = tt
appends_more (Some old) None c xs ys h k = absurd h
appends_more (Some old) (Some bs) None xs ys h k = absurd k
appends_more (Some old) (Some bs) (Some cs) xs ys h k = k ∙ ap (λ z. z ++ ys) h ∙ append_assoc old xs ys

pub appends_kept : (a b c : Option (List ℕ)) (xs : List ℕ) → Appends a b xs → Keeps b c → Appends a c xs
appends_kept None b c xs h k = tt
appends_kept (Some old) None c xs h k = absurd h
appends_kept (Some old) (Some bs) None xs h k = absurd k
appends_kept (Some old) (Some bs) (Some cs) xs h k = k ∙ h

pub passed_from : (all same rest : List ℕ) (a b : Option (List ℕ)) → same ≡ all → Passed same a rest b → Passed all a rest b
passed_from all same rest a b is passed = subst (λ z. Passed z a rest b) is passed

-- more of the bytes are written
pub passed_more : (all after rest : List ℕ) (a b c : Option (List ℕ)) → Passed all a after b → Passed after b rest c → Passed all a rest c
passed_more all after rest a b c first second = record {
  written = first.written ++ second.written;
  whole = first.whole ∙ ap (λ z. first.written ++ z) second.whole ∙ sym (append_assoc first.written second.written rest);
  wrote = appends_more a b c first.written second.written first.wrote second.wrote;
}

-- all of them are written
pub passed_all : (all rest : List ℕ) (a b : Option (List ℕ)) → Passed all a rest b → rest ≡ [] → Appends a b all
passed_all all rest a b passed none = subst (Appends a b) (sym (passed.whole ∙ ap (λ z. passed.written ++ z) none ∙ append-nil passed.written)) passed.wrote

-- more bytes stand behind
pub passed_before : (all tail rest : List ℕ) (a b : Option (List ℕ)) → Passed all a rest b → Passed (all ++ tail) a (rest ++ tail) b
passed_before all tail rest a b passed = record { written = passed.written; whole = ap (λ z. z ++ tail) passed.whole ∙ append_assoc passed.written rest tail; wrote = passed.wrote }

pub cut_before : (all tail : List ℕ) (a b : Option (List ℕ)) → Cut all a b → Cut (all ++ tail) a b
cut_before all tail a b (rest, passed) = (rest ++ tail, passed_before all tail rest a b passed)

-- a part was written, and a front of the others
pub cut_behind : (all after : List ℕ) (a b c : Option (List ℕ)) → Passed all a after b → Cut after b c → Cut all a c
cut_behind all after a b c passed (rest, more) = (rest, passed_more all after rest a b c passed more)

-- the first `at` of them are written
pub cut_at : (all : List ℕ) (at : ℕ) (a b : Option (List ℕ)) → Appends a b (take at all) → Cut all a b
cut_at all at a b wrote = (drop at all, record { written = take at all; whole = sym (take-append-drop at all); wrote = wrote })

-- and then n of the others
pub wrote_more : (all : List ℕ) (at n : ℕ) (a b c : Option (List ℕ)) → Appends a b (take at all) → Appends b c (take n (take (length all - at) (drop at all))) → Appends a c (take (at + n) all)
wrote_more all at n a b c first next =
    let others : Appends b c (take n (drop at all)) = rw (take_rest all at) at next in
    rw (take-add at n all) (appends_more a b c (take at all) (take n (drop at all)) first others)
