mod JoinedTexts
mod Literals
mod Segments
