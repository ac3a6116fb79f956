use Rattle.std.proofs.Common.{◌≡◌, [], ◌∷◌, ap, sym, ◌∙◌, true, cond}
use Rattle.mp_files.specs.declared.items.Item.TheVariants.{Character, LineEnd}
use Rattle.mp_files.specs.TextFiles.{is_writing, page_items}
use Rattle.mp_files.proofs.FileLemmas.{page-kept}
use Rattle.mp_files.proofs.stored_file.StoredFile.page_bytes.Goals as goal

pub returns-then-is_unfinished : goal.returns-then-is_unfinished
returns-then-is_unfinished c =
    let writing : is_writing c.args.self.now.state ≡ true = c.requires in
    sym (page-kept c.self.inside.items c.self.inside.place (ap (λ f. is_writing f.state) c.self.view_is ∙ writing)
    ∙ ap (λ b. cond b (LineEnd ∷ Character 12 ∷ []) (Character 12 ∷ [])) (sym c.is_unfinished.ensures ∙ c.if-is_unfinished.true))
    ∙ ap page_items c.self.view_is

pub returns-else-is_unfinished : goal.returns-else-is_unfinished
returns-else-is_unfinished c =
    let writing : is_writing c.args.self.now.state ≡ true = c.requires in
    sym (page-kept c.self.inside.items c.self.inside.place (ap (λ f. is_writing f.state) c.self.view_is ∙ writing)
    ∙ ap (λ b. cond b (LineEnd ∷ Character 12 ∷ []) (Character 12 ∷ [])) (sym c.is_unfinished.ensures ∙ c.if-is_unfinished.false))
    ∙ ap page_items c.self.view_is
