use Rattle.std.proofs.Common.{refl, sym, ◌∙◌}
use Rattle.mp_ast.proofs.PlainTypeLemmas.{plain_denoter-Named, plain_denoter-Enumeration, plain_denoter-Subrange, plain_denoter-Pointer, plain_denoter-Array}
use Rattle.mp_ast.proofs.PlainTypeLemmas.{plain_denoter-Record, plain_denoter-Set, plain_denoter-File}
use Rattle.mp_ast.proofs.FirstTokenLemmas.{denoter_begins, fields_begin}
use Rattle.mp_ast.proofs.types.Denoter.first_token.Goals as goal

pub returns-in-Named : goal.returns-in-Named
returns-in-Named c = sym (denoter_begins _ _ _ _ c.in-Named.is (plain_denoter-Named c.in-Named.name) refl)

pub returns-in-Enumeration : goal.returns-in-Enumeration
returns-in-Enumeration c = sym (denoter_begins _ _ _ _ c.in-Enumeration.is (plain_denoter-Enumeration c.in-Enumeration.at c.in-Enumeration.field-1) refl)

pub returns-in-Subrange : goal.returns-in-Subrange
returns-in-Subrange c = c.first_token.ensures ∙ sym (denoter_begins _ _ _ _ c.in-Subrange.is (plain_denoter-Subrange c.in-Subrange.first c.in-Subrange.field-1) refl)

pub returns-in-Pointer : goal.returns-in-Pointer
returns-in-Pointer c = sym (denoter_begins _ _ _ _ c.in-Pointer.is (plain_denoter-Pointer c.in-Pointer.at c.in-Pointer.field-1) refl)

pub returns-in-Array : goal.returns-in-Array
returns-in-Array c = sym (denoter_begins _ _ _ _ c.in-Array.is (plain_denoter-Array c.in-Array.at c.in-Array.field-1 c.in-Array.field-2 c.in-Array.field-3) refl)

pub returns-in-Record : goal.returns-in-Record
returns-in-Record c = sym (denoter_begins _ _ _ _ c.in-Record.is (plain_denoter-Record c.in-Record.at c.in-Record.field-1 c.in-Record.field-2) refl)

pub returns-in-Set : goal.returns-in-Set
returns-in-Set c = sym (denoter_begins _ _ _ _ c.in-Set.is (plain_denoter-Set c.in-Set.at c.in-Set.field-1 c.in-Set.field-2) refl)

pub returns-in-File : goal.returns-in-File
returns-in-File c = sym (denoter_begins _ _ _ _ c.in-File.is (plain_denoter-File c.in-File.at c.in-File.field-1 c.in-File.field-2) refl)

pub returns-in-Fields : goal.returns-in-Fields
returns-in-Fields c = sym (fields_begin _ c.in-Fields.field-0 c.in-Fields.field-1 c.in-Fields.is)
