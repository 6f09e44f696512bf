mod AsciiNames
