use Rattle.mp_ast.proofs.PlainTypeLemmas.{plain_denoter-Named, plain_denoter-Enumeration, plain_denoter-Subrange, plain_denoter-Pointer, plain_denoter-Array}
use Rattle.mp_ast.proofs.PlainTypeLemmas.{plain_denoter-Record, plain_denoter-Set, plain_denoter-File, plain_denoter-Fields, plain_denoter-FieldsWithVariants}
use Rattle.mp_ast.proofs.laws.plain_type_forms.Goals as goal

pub returns-clause-named : goal.returns-clause-named
returns-clause-named c = plain_denoter-Named

pub returns-clause-enumeration : goal.returns-clause-enumeration
returns-clause-enumeration c = plain_denoter-Enumeration

pub returns-clause-subrange : goal.returns-clause-subrange
returns-clause-subrange c = plain_denoter-Subrange

pub returns-clause-pointer_type : goal.returns-clause-pointer_type
returns-clause-pointer_type c = plain_denoter-Pointer

pub returns-clause-array_type : goal.returns-clause-array_type
returns-clause-array_type c = plain_denoter-Array

pub returns-clause-record_type : goal.returns-clause-record_type
returns-clause-record_type c = plain_denoter-Record

pub returns-clause-set_type : goal.returns-clause-set_type
returns-clause-set_type c = plain_denoter-Set

pub returns-clause-file_type : goal.returns-clause-file_type
returns-clause-file_type c = plain_denoter-File

pub returns-clause-fields : goal.returns-clause-fields
returns-clause-fields c = plain_denoter-Fields

pub returns-clause-fields_with_variants : goal.returns-clause-fields_with_variants
returns-clause-fields_with_variants c = plain_denoter-FieldsWithVariants
