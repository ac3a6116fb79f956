use Rattle.std.proofs.Common.{rules, ◌≡◌, ◌-◌, ap, sym, ◌∙◌, arith, drop, take}
use Rattle.mp_files.specs.RunFiles.{fault_of}
use Rattle.std.proofs.Common.{SFits, w64}
use Rattle.std.proofs.lemmas.Int.{to_z-of_z}
use Rattle.mp_files.specs.declared.stored_file.Place.TheVariants as place
use Rattle.mp_files.specs.TextFiles.{Gives, read_number, signed, value_of}
use Rattle.mp_files.specs.Stored.{file_kept}
use Rattle.mp_files.proofs.NumberLemmas.{number_too_large, number_read}
use Rattle.mp_files.proofs.stored_file.StoredFile.read_int.Goals as goal

pub returns-then-value-gt-MAXINT-clause-fault : goal.returns-then-value-gt-MAXINT-clause-fault
returns-then-value-gt-MAXINT-clause-fault c =
    let xs = c.self.inside.items in
    ap (λ f. fault_of (read_number f)) (sym (ap (file_kept xs) (sym c.in-Reading.is) ∙ c.self.view_is))
    ∙ ap fault_of (number_too_large xs c.in-Reading.at c.end_of-start.result c.sign_end-digits.result c.end_of-end.result c.in-Some.first
    c.end_of-start.ensures (sym c.in-Some.ensures.item) c.sign_end-digits.ensures c.end_of-end.ensures c.if-end-digits.false
    (omega (arith, c.value_between-value.ensures, c.if-value-gt-MAXINT.true)))

pub returns-clause-number : goal.returns-clause-number
returns-clause-number c =
    let xs = c.self.inside.items in
    let value = value_of (take (c.end_of-end.result - c.sign_end-digits.result) (drop c.sign_end-digits.result xs)) in
    let small : value ≡ c.value_between-value.result = omega (arith, c.value_between-value.ensures, c.if-value-gt-MAXINT.false) in
    let fits : SFits w64 c.signed.result = search rules in
    ap read_number (sym (ap (file_kept xs) (sym c.in-Reading.is) ∙ c.self.view_is))
    ∙ number_read xs c.in-Reading.at c.end_of-start.result c.sign_end-digits.result c.end_of-end.result c.in-Some.first
    c.end_of-start.ensures (sym c.in-Some.ensures.item) c.sign_end-digits.ensures c.end_of-end.ensures c.if-end-digits.false
    (omega (arith, c.value_between-value.ensures, c.if-value-gt-MAXINT.false))
    ∙ ap (λ n. Gives n (file_kept xs (place.Reading c.end_of-end.result)))
    (ap (λ m. signed m value) (sym c.is_minus.ensures)
    ∙ ap (signed c.is_minus.result) small
    ∙ sym (to_z-of_z w64 c.signed.result fits ∙ c.signed.ensures))
